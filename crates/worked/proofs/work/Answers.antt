use Rattle.worked.proofs.Examples.{examples}
use Rattle.worked.proofs.work.Goals as goal

pub returns-in_err-case-clause-examples : goal.returns-in_err-case-clause-examples
returns-in_err-case-clause-examples g c = examples

pub returns-clause-examples : goal.returns-clause-examples
returns-clause-examples g c = examples

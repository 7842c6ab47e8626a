use Rattle.tables.proofs.Latex.{prints_latex}
use Rattle.tables.proofs.texts.push_latex.Goals as goal

pub returns-clause-prints : goal.returns-clause-prints
returns-clause-prints c = prints_latex c.args.text.now

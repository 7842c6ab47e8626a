use Rattle.case.proofs.Sealed.{sealed_claims}
use Rattle.case.proofs.cases.Held.seal.Goals as goal

pub returns-clause-claims : goal.returns-clause-claims
returns-clause-claims c = λ S. rw c.close.ensures.answer (sealed_claims S c.args.self.now.records)

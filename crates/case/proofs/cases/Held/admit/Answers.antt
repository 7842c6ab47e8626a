use Rattle.std.proofs.Common.{◌≡◌, None, arith}
use Rattle.std.proofs.lemmas.Grind.{common_steps}
use Rattle.stages.specs.Stages.{permits}
use Rattle.stages.specs.declared.Call.TheVariants.{Admit}
use Rattle.case.proofs.cases.Held.admit.Goals as goal

pub returns-clause-answer : goal.returns-clause-answer
returns-clause-answer c =
    let free : permits c.args.self.now.stage Admit ≡ None = grind (arith, common_steps) in
    rw free (grind (arith, common_steps))

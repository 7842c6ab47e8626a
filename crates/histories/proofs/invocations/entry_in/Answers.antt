use Rattle.histories.proofs.Fronts.{joined}
use Rattle.histories.proofs.invocations.entry_in.Goals as goal

pub returns : goal.returns
returns c =
    let split = c.in_ok-content.ensures.cases in
    joined c.args.bytes.now _ _ _ 30 split.1 split.2 c.in_ok-read.ensures.back

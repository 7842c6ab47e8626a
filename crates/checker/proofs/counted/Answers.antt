use Rattle.std.proofs.Common.{ap, ◌∙◌, take}
use Rattle.std.proofs.lemmas.List.{take_min}
use Rattle.checker.proofs.counted.Goals as goal

pub returns : goal.returns
returns c = ap (λ n. take n c.args.input.now) c.min.ensures ∙ take_min 4096 c.args.input.now

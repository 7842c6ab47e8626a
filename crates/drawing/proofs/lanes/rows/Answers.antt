use Rattle.std.proofs.Common.{◌∙◌, arith}
use Rattle.drawing.proofs.Rows.{in_lanes, place_is}
use Rattle.drawing.proofs.lanes.rows.Goals as goal

pub returns : goal.returns
returns c =
    in_lanes _ _ (omega (arith, c.loop-index.invariant.0, c.loop-index.auto.index-end, c.loop-index-test.false))
    (λ k h. c.loop-index.invariant.1 k (omega (arith, h, c.loop-index-test.false)) ∙ place_is _ k)

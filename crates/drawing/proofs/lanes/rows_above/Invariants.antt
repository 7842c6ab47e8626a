use Rattle.std.proofs.Common.{◌≡◌}
use Rattle.drawing.specs.Lanes.{rows_above}
use Rattle.drawing.proofs.lanes.rows_above.Given as goal

abbrev pub invariant-loop-above : goal.invariant-loop-above
invariant-loop-above l = l.rows ≡ rows_above l.records l.above

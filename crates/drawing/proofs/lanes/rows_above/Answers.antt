use Rattle.std.proofs.Common.{arith}
use Rattle.drawing.proofs.Rows.{rows_fit}
use Rattle.drawing.proofs.lanes.rows_above.Goals as goal

pub overflow_add-rows : goal.overflow_add-rows
overflow_add-rows c = omega (arith, c.loop-above.invariant, c.lane_rows-rows.ensures, rows_fit c.args.records.now c.loop-above.above, c.ranges.processor)

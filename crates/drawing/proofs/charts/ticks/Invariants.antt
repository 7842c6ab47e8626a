use Rattle.std.proofs.Common.{◌<◌}
use Rattle.drawing.proofs.charts.ticks.Given as goal

abbrev pub invariant-loop-column : goal.invariant-loop-column
invariant-loop-column g l = 0 < l.apart

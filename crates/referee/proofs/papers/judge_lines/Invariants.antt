use Rattle.std.proofs.Common.{◌-◌, length}
use Rattle.inference.specs.Views.{run_is}
use Rattle.referee.proofs.Taking.{Reached}
use Rattle.referee.proofs.papers.judge_lines.Given as goal

abbrev pub invariant-loop-field : goal.invariant-loop-field
invariant-loop-field g l = Reached (run_is l.run) l.initial.reader l.initial.lines l.reader l.lines

abbrev pub decreases-loop-field : goal.decreases-loop-field
decreases-loop-field g l = length l.initial.reader.bytes.now - l.reader.at

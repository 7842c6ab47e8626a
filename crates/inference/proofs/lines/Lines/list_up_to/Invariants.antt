use Rattle.inference.specs.Views.{lines_of, run_is}
use Rattle.inference.proofs.Onward.{Reached}
use Rattle.inference.proofs.lines.Lines.list_up_to.Given as goal

abbrev pub invariant-loop-count : goal.invariant-loop-count
invariant-loop-count g l = Reached (run_is l.run) l.k (lines_of l.initial.self) l.count (lines_of l.self)

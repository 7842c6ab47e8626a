use Rattle.finding.specs.Marks.{ClosesMarks}
use Rattle.finding.proofs.resting.mark_all.Given as goal

abbrev pub invariant-loop-index : goal.invariant-loop-index
invariant-loop-index l = ClosesMarks l.records l.lines l.index l.initial.marks l.marks

use Rattle.std.proofs.Common.{◌≡◌, filter}
use Rattle.finding.specs.Marks.{numbers_to, marked}
use Rattle.finding.proofs.resting.marked_lines.Given as goal

abbrev pub invariant-loop-index : goal.invariant-loop-index
invariant-loop-index l = l.numbers.items ≡ filter (marked l.marks) (numbers_to l.index)

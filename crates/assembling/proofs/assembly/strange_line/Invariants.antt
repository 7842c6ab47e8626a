use Rattle.std.proofs.Common.{◌≡◌, ◌+◌, map, drop}
use Rattle.logs.specs.Reading.{lines_of}
use Rattle.assembling.specs.Assembly.{strange_line}
use Rattle.assembling.proofs.assembly.strange_line.Given as goal

abbrev pub invariant-loop-line : goal.invariant-loop-line
invariant-loop-line l = (l.number ≡ l.line-index + 1) × (strange_line l.number (map (λ x. x.now) (drop l.line-index l.line-items)) ≡ strange_line 1 (lines_of l.text))

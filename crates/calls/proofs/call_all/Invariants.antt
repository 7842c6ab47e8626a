use Rattle.std.proofs.Common.{◌≤◌, length}
use Rattle.calls.proofs.call_all.Given as goal

abbrev pub invariant-loop-case : goal.invariant-loop-case
invariant-loop-case g l = length l.rest ≤ length l.input

abbrev pub decreases-loop-case : goal.decreases-loop-case
decreases-loop-case g l = length l.rest

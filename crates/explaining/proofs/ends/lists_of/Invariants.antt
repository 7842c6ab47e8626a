use Rattle.std.proofs.Common.{◌≡◌}
use Rattle.search.specs.Steps.{F}
use Rattle.explaining.proofs.ends.lists_of.Given as goal

abbrev pub invariant-loop-n : goal.invariant-loop-n
invariant-loop-n l = l.lists ≡ F l.n

use Rattle.inference.specs.Views.{run_is}
use Rattle.search.specs.Views.{standing_of}
use Rattle.search.proofs.Steps.{Reached}
use Rattle.search.proofs.searches.Search.make_steps.Given as goal

abbrev pub invariant-loop-count : goal.invariant-loop-count
invariant-loop-count g l = Reached (run_is l.run) l.lines l.k (standing_of l.initial.self) l.count (standing_of l.self)

-- A search of the code, as where it stands.
use Rattle.std.specs.Prelude.{Option, vec_items}
use Rattle.memory.specs.declared.verdicts.Progress.{Progress}
use Rattle.memory.specs.declared.verdicts.Verdict.{Verdict}
use Rattle.search.specs.declared.searches.Search.{Search}
use Rattle.search.specs.Placing.{Standing}
use Rattle.search.specs.Steps.{Stepped, Walk}

abbrev pub standing_of : Search → Standing
standing_of s = record { placed = vec_items s.placed; mark = s.mark }

-- what a step and a search answered, with where the search stands after
abbrev pub stepped : Option Verdict → Search → Stepped
stepped verdict s = record { standing = standing_of s; verdict = verdict }

abbrev pub walk_to : Progress → Standing → Walk
walk_to p t = record { count = p.done; standing = t; verdict = p.verdict }

abbrev pub walked : Progress → Search → Walk
walked p s = walk_to p (standing_of s)

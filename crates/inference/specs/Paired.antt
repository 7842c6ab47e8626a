-- Lines whose pairs are of records and differ. Assumes nothing.
use Rattle.std.specs.Prelude.{ℕ, Bool, true, not, ◌&&◌, List, [], ◌∷◌, ◌==◌}
use Rattle.memory.specs.declared.lines.Line.{Line}
use Rattle.inference.specs.Rules.{among, listed}

-- the line names two different ones of 1 to n
abbrev pub of_two : ℕ → Line → Bool
of_two n l = among n l.first && (among n l.second && not (l.first == l.second))

-- each line names two different ones of 1 to n, and no pair is listed twice
abbrev pub paired : ℕ → List Line → Bool
paired n [] = true
paired n (l ∷ ls) = of_two n l && (not (listed ls l.first l.second) && paired n ls)

-- The steps of a search, and how many are enough. Assumes nothing.
use Rattle.std.specs.Prelude.{◌≡◌, ℕ, zero, suc, ◌+◌, ◌*◌, cond, List, [], ◌∷◌, ◌++◌, length, reverse, Some, None, Option, ◌==◌}
use Rattle.memory.specs.declared.lines.Line.{Line}
use Rattle.memory.specs.declared.verdicts.Verdict.{Verdict}
use Rattle.memory.specs.declared.verdicts.Verdict.TheVariants.{Order, Exhausted}
use Rattle.memory.specs.Runs.{Run}
use Rattle.search.specs.Placing.{Standing, Takes, takes}

-- where the search stands after a step, and the verdict that the step brought, if it did
pub record Stepped : Type 0 where
  pub standing : Standing
  pub verdict : Option Verdict

-- one step
pub data Step (R : Run) (ls : List Line) : Standing → Stepped → Type 0 where
  -- a record is taken: it is placed, and the mark is cleared
  places : {s : Standing} (k : ℕ) → Takes R ls s (Some k) → (length s.placed + 1 ≡ R.size → ⊥) → Step R ls s (record { standing = record { placed = s.placed ++ k ∷ []; mark = None }; verdict = None })
  -- and with it all are placed: an order is found
  completes : {s : Standing} (k : ℕ) → Takes R ls s (Some k) → length s.placed + 1 ≡ R.size → Step R ls s (record { standing = record { placed = s.placed ++ k ∷ []; mark = None }; verdict = Some Order })
  -- none can be taken: the last placed record is taken back, and becomes the mark
  takes_back : {s : Standing} (front : List ℕ) (last : ℕ) → Takes R ls s None → s.placed ≡ front ++ last ∷ [] → Step R ls s (record { standing = record { placed = front; mark = Some last }; verdict = None })
  -- with nothing to take back the search is exhausted; without records it is so at once, though the empty order is legal: no case searches
  -- them
  exhausts : {s : Standing} → Takes R ls s None → s.placed ≡ [] → Step R ls s (record { standing = s; verdict = Some Exhausted })

-- how many steps were made, where the search stands after them, and the verdict that the last brought, if it did
pub record Walk : Type 0 where
  pub count : ℕ
  pub standing : Standing
  pub verdict : Option Verdict

abbrev pub one_more : Walk → Walk
one_more w = record { count = suc w.count; standing = w.standing; verdict = w.verdict }

-- steps until k are made or one brings a verdict
pub data Steps (R : Run) (ls : List Line) : ℕ → Standing → Walk → Type 0 where
  enough : {s : Standing} → Steps R ls 0 s (record { count = 0; standing = s; verdict = None })
  decided : {k : ℕ} {s t : Standing} (v : Verdict) → Step R ls s (record { standing = t; verdict = Some v }) → Steps R ls (suc k) s (record { count = 1; standing = t; verdict = Some v })
  onward : {k : ℕ} {s t : Standing} (w : Walk) → Step R ls s (record { standing = t; verdict = None }) → Steps R ls k t w → Steps R ls (suc k) s (one_more w)

-- the same, computed; the last placed record is taken back, which is the first of them reversed
abbrev pub retreat : Standing → List ℕ → Stepped
retreat s [] = record { standing = s; verdict = Some Exhausted }
retreat s (last ∷ before) = record { standing = record { placed = reverse before; mark = Some last }; verdict = None }

abbrev pub advance : Run → List ℕ → Stepped
advance R placed = record { standing = record { placed = placed; mark = None }; verdict = cond (length placed == R.size) (Some Order) None }

abbrev pub step_by : Run → Standing → Option ℕ → Stepped
step_by R s None = retreat s (reverse s.placed)
step_by R s (Some k) = advance R (s.placed ++ k ∷ [])

abbrev pub step : Run → List Line → Standing → Stepped
step R ls s = step_by R s (takes R ls s)

abbrev pub walk_on : Option Verdict → Standing → (Standing → Walk) → Walk
walk_on (Some v) s rest = record { count = 1; standing = s; verdict = Some v }
walk_on None s rest = one_more (rest s)

unfoldable pub walk : Run → List Line → ℕ → Standing → Walk
walk R ls zero s = record { count = 0; standing = s; verdict = None }
walk R ls (suc k) s = let t = step R ls s in walk_on t.verdict t.standing (λ u. walk R ls k u)

-- undecided only where all the steps that were asked for were made
abbrev pub Ends : ℕ → Walk → Type 0
Ends k w = w.verdict ≡ None → w.count ≡ k

-- F n, the number of lists of different ones of n records; 2 × F n steps are enough to search n records
abbrev pub F : ℕ → ℕ
F zero = 1
F (suc n) = 1 + suc n * F n

-- Which record may be placed next, and which a step takes. Assumes nothing.
use Rattle.std.specs.Prelude.{◌≡◌, ℕ, ◌<◌, ◌≤◌, Bool, true, false, not, ◌&&◌, ◌||◌, List, [], ◌∷◌, Some, None, Option, ◌==◌, nat_lt}
use Rattle.memory.specs.declared.lines.Line.{Line}
use Rattle.memory.specs.Legal.{memory}
use Rattle.memory.specs.Reading.{pick, numbered}
use Rattle.memory.specs.Runs.{Run, Known, has, must_precede}
use Rattle.inference.specs.Rules.{among, some, listed}

-- where a search stands: the records placed so far, in their order, and the mark, above which the next is looked for, if there is one
pub record Standing : Type 0 where
  pub placed : List ℕ
  pub mark : Option ℕ

-- nothing is placed
abbrev pub fresh : Standing
fresh = record { placed = []; mark = None }

-- u must come before k: by the model or the clock, or by a listed line
abbrev pub precedes : Run → List Line → ℕ → ℕ → Bool
precedes R ls u k = must_precede R u k || listed ls u k

-- record k may be placed next, behind the placed ones
pub record Placeable (R : Run) (ls : List Line) (placed : List ℕ) (k : ℕ) : Type 0 where
  pub known : Known R k
  pub unplaced : has placed k ≡ false
  -- no other unplaced record must come before it
  pub free : (u : ℕ) → Known R u → has placed u ≡ false → (u ≡ k → ⊥) → precedes R ls u k ≡ false
  -- a load has the value of the last placed store to its address, or 0
  pub value : R.load k ≡ true → R.value k ≡ memory R placed (R.addr k)

-- k is above the mark, if there is one
abbrev pub Above : Option ℕ → ℕ → Type 0
Above None k = Unit {0}
Above (Some m) k = m < k

-- which record a step takes: it may be placed, it is above the mark, and no smaller one is so; none only where there is none
abbrev pub Takes : Run → List Line → Standing → Option ℕ → Type 0
Takes R ls s None = (k : ℕ) → Placeable R ls s.placed k → Above s.mark k → ⊥
Takes R ls s (Some k) = Placeable R ls s.placed k × Above s.mark k × ((j : ℕ) → Placeable R ls s.placed j → Above s.mark j → k ≤ j)

-- the same, computed: u is another record than k, it is not placed, and it must come before k
abbrev pub awaits : Run → List Line → List ℕ → ℕ → ℕ → Bool
awaits R ls placed k u = not (u == k) && (not (has placed u) && precedes R ls u k)

abbrev pub reads_right : Run → List ℕ → ℕ → Bool
reads_right R placed k = not (R.load k) || R.value k == memory R placed (R.addr k)

abbrev pub placeable : Run → List Line → List ℕ → ℕ → Bool
placeable R ls placed k = not (has placed k) && (reads_right R placed k && not (some (awaits R ls placed k) R.size))

abbrev pub above : Option ℕ → ℕ → Bool
above None k = true
above (Some m) k = nat_lt m k

abbrev pub candidate : Run → List Line → Standing → ℕ → Bool
candidate R ls s k = above s.mark k && placeable R ls s.placed k

unfoldable pub takes : Run → List Line → Standing → Option ℕ
takes R ls s = numbered (pick (candidate R ls s) R.size)

-- each is one of 1 to n, and none stands twice
abbrev pub distinct : ℕ → List ℕ → Bool
distinct n [] = true
distinct n (x ∷ xs) = among n x && (not (has xs x) && distinct n xs)

-- The needed lines, as marks: one for each line of the list. Assumes nothing.
use Rattle.std.specs.Prelude.{◌≡◌, ℕ, ◌+◌, ◌-◌, ◌<◌, Bool, true, false, ◌⊎◌, ◌↔◌, List, length, map, slice_index_or}
use Rattle.std.specs.List.{range_with_len}
use Rattle.memory.specs.declared.lines.Line.{Line}
use Rattle.memory.specs.declared.records.Record.{Record}
use Rattle.finding.specs.Resting.{RestsOn, IsOpposed, IsClosed, Needed}

-- line k is marked
abbrev pub marked : List Bool → ℕ → Bool
marked ms k = slice_index_or ms (k - 1) false

-- just the two opposed lines are marked
abbrev pub MarksOpposed : List Line → List Bool → Type 0
MarksOpposed ls ms = (length ms ≡ length ls) × ((k : ℕ) → 0 < k → (marked ms k ≡ true) ↔ IsOpposed ls k)

-- what is marked stays so; besides, just the lines that line i rests on are marked
abbrev pub MarksPremises : List Record → List Line → ℕ → List Bool → List Bool → Type 0
MarksPremises rs ls i before after =
    (((k : ℕ) → marked before k ≡ true → marked after k ≡ true)
    × ((k : ℕ) → 0 < k → marked after k ≡ true → (marked before k ≡ true) ⊎ RestsOn rs ls i k)
    × ((j : ℕ) → RestsOn rs ls i j → marked after j ≡ true))

-- what is marked stays so; no line is marked besides that is not in every closed set with the lines marked before; and each marked line above n has what it
-- rests on marked
pub record ClosesMarks (rs : List Record) (ls : List Line) (n : ℕ) (before after : List Bool) : Type 0 where
  pub kept : (k : ℕ) → marked before k ≡ true → marked after k ≡ true
  pub only : (p : ℕ → Bool) → ((k : ℕ) → 0 < k → marked before k ≡ true → p k ≡ true) → IsClosed rs ls p → (k : ℕ) → 0 < k → marked after k ≡ true → p k ≡ true
  pub closed : (i j : ℕ) → n < i → marked after i ≡ true → RestsOn rs ls i j → marked after j ≡ true

-- just the needed lines are marked
abbrev pub MarksNeeded : List Record → List Line → List Bool → Type 0
MarksNeeded rs ls ms = (length ms ≡ length ls) × ((k : ℕ) → 0 < k → (marked ms k ≡ true) ↔ Needed rs ls k)

-- 1 to n
abbrev pub numbers_to : ℕ → List ℕ
numbers_to n = map (λ i. i + 1) (range_with_len 0 n)

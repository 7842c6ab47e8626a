-- The rules that the records of a run keep, whatever was admitted and whatever was refused. Assumes nothing.
use Rattle.std.specs.Prelude.{◌≡◌, ℕ, ◌<◌, ◌≤◌, true, List, [], ◌∷◌, ◌++◌, length, Some, slice_index_or}
use Rattle.memory.specs.declared.kinds.Kind.{Kind}
use Rattle.memory.specs.declared.records.Entry.{Entry}
use Rattle.memory.specs.declared.records.Record.{Record}
use Rattle.memory.specs.Admission.{record_of}
use Rattle.memory.specs.Kinds.{kind_at, is_store, is_fence}
use Rattle.memory.specs.Limits.{most_records, reading_limit}
use Rattle.memory.specs.Runs.{blank}

-- the record at a place of the list
abbrev pub nth : List Record → ℕ → Record
nth rs i = slice_index_or rs i blank

pub record Lawful (p : ℕ) (rs : List Record) : Type 0 where
  -- there are not too many, and each is of one of the run's p processors
  pub few : length rs ≤ most_records
  pub local : (i : ℕ) → i < length rs → (nth rs i).processor < p
  -- no store writes 0, which every address holds at the start; a fence has neither address nor value
  pub written : (i : ℕ) → i < length rs → is_store (nth rs i).kind ≡ true → (nth rs i).value ≡ 0 → ⊥
  pub bare : (i : ℕ) → i < length rs → is_fence (nth rs i).kind ≡ true → ((nth rs i).address ≡ 0) × ((nth rs i).value ≡ 0)
  -- a pending period does not end before it begins, and lies below the limit
  pub timed : (i : ℕ) → i < length rs → ((nth rs i).enter ≤ (nth rs i).commit) × ((nth rs i).commit < reading_limit)
  -- in program order the enter readings of one processor never fall
  pub forward : (i j : ℕ) → i < j → j < length rs → (nth rs i).processor ≡ (nth rs j).processor → (nth rs i).enter ≤ (nth rs j).enter
  -- no two stores write the same value to the same address, so that a load reads at most one
  pub apart : (i j : ℕ) → i < length rs → j < length rs → is_store (nth rs i).kind ≡ true → is_store (nth rs j).kind ≡ true → (nth rs i).address ≡ (nth rs j).address → (nth rs i).value ≡ (nth rs j).value → i ≡ j

-- the entry says no record with which the records would keep the rules: nothing that they allow is refused
abbrev pub Breaks : ℕ → List Record → Entry → Type 0
Breaks p rs e = (k : Kind) → kind_at e.kind ≡ Some k → Lawful p (rs ++ record_of k e ∷ []) → ⊥

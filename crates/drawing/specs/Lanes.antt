-- The lanes of the processors, and the rows of the records in them, from the top down. Assumes nothing.
use Rattle.std.specs.Prelude.{◌≡◌, ℕ, zero, suc, ◌+◌, ◌-◌, ◌<◌, ◌≤◌, ◌⊎◌, List, length, take, max, ◌==◌, slice_index}
use Rattle.std.specs.List.{count_by}
use Rattle.memory.specs.declared.records.Record.{Record}
use Rattle.memory.specs.Runs.{at}

-- how many records are a processor's
abbrev pub records_of : List Record → ℕ → ℕ
records_of rs p = count_by (λ r. r.processor == p) rs

-- a lane has a row for each record of its processor, and one where there is none
abbrev pub lane_rows : List Record → ℕ → ℕ
lane_rows rs p = max (records_of rs p) 1

-- so many rows are above the lane of a processor: those of the lanes of all before it
abbrev pub rows_above : List Record → ℕ → ℕ
rows_above rs zero = 0
rows_above rs (suc p) = rows_above rs p + lane_rows rs p

-- the row of record a, from 0 on: in its lane, below those of its processor's earlier records
abbrev pub row : List Record → ℕ → ℕ
row rs a = let p = (at rs a).processor in rows_above rs p + records_of (take (a - 1) rs) p

-- record a is of a lower processor than record b, or of the same one and earlier in program order
abbrev pub IsAbove : List Record → ℕ → ℕ → Type 0
IsAbove rs a b = ((at rs a).processor < (at rs b).processor) ⊎ (((at rs a).processor ≡ (at rs b).processor) × (a < b))

-- the row that the list has for record a
abbrev pub row_in : List ℕ → ℕ → ℕ
row_in rows a = slice_index rows (a - 1)

-- of two records, the one whose row is above is of a lower processor, or earlier in program order; and each row is in the lane of the record's processor
pub record InLanes (rs : List Record) (rows : List ℕ) : Type 0 where
  pub each : length rows ≡ length rs
  pub above : (a b : ℕ) → 0 < a → a ≤ length rs → 0 < b → b ≤ length rs → IsAbove rs a b → row_in rows a < row_in rows b
  pub only_above : (a b : ℕ) → 0 < a → a ≤ length rs → 0 < b → b ≤ length rs → row_in rows a < row_in rows b → IsAbove rs a b
  pub within : (a : ℕ) → 0 < a → a ≤ length rs → let p = (at rs a).processor in (rows_above rs p ≤ row_in rows a) × (row_in rows a < rows_above rs (p + 1))

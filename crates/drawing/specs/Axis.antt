-- The axis of readings. Assumes nothing.
use Rattle.std.specs.Prelude.{◌≡◌, ℕ, ◌<◌, List, ◌++◌, length, map, Contains, nat_lt, slice_index}
use Rattle.std.specs.List.{count_by}
use Rattle.memory.specs.declared.records.Record.{Record}
use Rattle.drawing.specs.declared.axis.Axis.{Axis}

-- the readings of a run: each record's enter and commit
abbrev pub readings_of : List Record → List ℕ
readings_of rs = map (λ r. r.enter) rs ++ map (λ r. r.commit) rs

-- t is a reading of the run
abbrev pub IsReading : List Record → ℕ → Type 0
IsReading rs t = Contains (readings_of rs) t

-- how many columns there are
abbrev pub columns : Axis → ℕ
columns a = length a.readings.items

-- the column of a reading, from 0 on: as many readings have columns and are earlier
abbrev pub column : Axis → ℕ → ℕ
column a t = count_by (λ s. nat_lt s t) a.readings.items

-- the axis keeps time: of two readings of the run, the earlier has the column further left, and each is on the axis
abbrev pub KeepsTime : List Record → Axis → Type 0
KeepsTime rs a = (s t : ℕ) → IsReading rs s → IsReading rs t → (s < t → column a s < column a t) × (column a s < column a t → s < t) × (column a t < columns a)

-- each column is that of a reading of the run, the one that stands there
abbrev pub EachColumn : List Record → Axis → Type 0
EachColumn rs a = (k : ℕ) → k < columns a → let t = slice_index a.readings.items k in IsReading rs t × (column a t ≡ k)

use Rattle.std.proofs.Common.{◌≡◌, ℕ, ◌<◌, ◌+◌, length, slice_index}
use Rattle.drawing.specs.Lanes.{row}
use Rattle.drawing.proofs.lanes.rows.Given as goal

abbrev pub invariant-loop-index : goal.invariant-loop-index
invariant-loop-index l = (length l.rows.items ≡ l.index) × ((k : ℕ) → k < l.index → slice_index l.rows.items k ≡ row l.records (k + 1))

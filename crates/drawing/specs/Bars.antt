-- The bar of a record, and its place in an order. Assumes nothing.
use Rattle.std.specs.Prelude.{◌≡◌, ℕ, ◌-◌, ◌≤◌, Bool, List, ◌==◌, slice_index}
use Rattle.memory.specs.declared.records.Record.{Record}
use Rattle.drawing.specs.declared.axis.Axis.{Axis}
use Rattle.drawing.specs.declared.bars.Bar.{Bar}
use Rattle.drawing.specs.Axis.{column}

-- in its row, the bar lasts for the record's pending period: from the column of its enter to that of its commit, which is no further left
-- where the commit is no earlier
pub record IsBar (a : Axis) (r : Record) (row : ℕ) (b : Bar) : Type 0 where
  pub in_row : b.row ≡ row
  pub begins : b.begin ≡ column a r.enter
  pub ends : b.end ≡ column a r.commit
  pub forward : r.enter ≤ r.commit → b.begin ≤ b.end

-- the order has record n at place k, counted from 1
abbrev pub has_place : List ℕ → ℕ → ℕ → Bool
has_place order n k = slice_index order (k - 1) == n

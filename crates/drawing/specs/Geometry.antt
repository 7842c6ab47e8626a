-- From rows and columns to the units of the picture. Assumes nothing.
use Rattle.std.specs.Prelude.{ℕ, ◌+◌, ◌*◌, ◌/◌, ◌-◌, ◌^◌, ◌<◌, ◌≤◌, min, max}
use Rattle.drawing.specs.declared.geometry.TheConstants.{AXIS_LEFT, AXIS_WIDTH, MOST_ROWS, ROW, TOP}

-- of so many parts of a length the first few, and no more than the length; a product beyond all that a usize counts is the greatest that it does
abbrev pub share_of : ℕ → ℕ → ℕ → ℕ
share_of length few parts = min (min (length * few) (2 ^ 64 - 1) / max parts 1) length

-- where a row begins, from the top down
abbrev pub top_of : ℕ → ℕ
top_of row = TOP + min row MOST_ROWS * ROW

-- where a column stands, the last of which is given
abbrev pub unit_of : ℕ → ℕ → ℕ
unit_of column last = AXIS_LEFT + share_of AXIS_WIDTH column last

-- on an axis of no more columns than it has units, the unit of an earlier column is left of that of a later one
abbrev pub KeepsApart : ℕ → Type 0
KeepsApart last = (a b : ℕ) → a < b → b ≤ last → last ≤ AXIS_WIDTH → unit_of a last < unit_of b last

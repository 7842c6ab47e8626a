-- Cells filled with spaces to the widths of their columns. Assumes nothing.
use Rattle.std.specs.Prelude.{ℕ, ◌-◌, Bool, List, [], ◌∷◌, ◌++◌, fold, max, replicate, nat_lt, nat_le, ◌||◌}
use Rattle.std.specs.List.{count_by}
use Rattle.tables.specs.declared.widths.Widths.{Widths}

-- the byte is the first of a character
abbrev pub begins_char : ℕ → Bool
begins_char b = nat_lt b 0x80 || nat_le 0xC0 b

-- how many characters a text has
abbrev pub width : List ℕ → ℕ
width text = count_by begins_char text

-- the widths from left to right
abbrev pub width_list : Widths → List ℕ
width_list w = w.name ∷ w.records ∷ w.processors ∷ w.model ∷ w.clock ∷ w.verdict ∷ w.steps ∷ w.paper ∷ []

-- each width, or the width of its cell where that is greater
abbrev pub wider : List ℕ → List (List ℕ) → List ℕ
wider [] cells = []
wider (w ∷ ws) [] = w ∷ ws
wider (w ∷ ws) (c ∷ cs) = max w (width c) ∷ wider ws cs

-- the least widths that all rows fit
abbrev pub widths : List (List (List ℕ)) → List ℕ
widths rows = fold wider (0 ∷ 0 ∷ 0 ∷ 0 ∷ 0 ∷ 0 ∷ 0 ∷ 0 ∷ []) rows

-- words stand at the left of their column, and numbers at the right
pub data Side : Type 0 where
  to_left : Side
  to_right : Side

abbrev pub sides : List Side
sides = to_left ∷ to_right ∷ to_right ∷ to_left ∷ to_left ∷ to_left ∷ to_right ∷ to_right ∷ []

abbrev pub spaces : ℕ → List ℕ
spaces n = replicate n 32

-- a text filled with spaces to a width
abbrev pub filled : Side → ℕ → List ℕ → List ℕ
filled to_left w text = text ++ spaces (w - width text)
filled to_right w text = spaces (w - width text) ++ text

abbrev pub filled_by : List Side → List ℕ → List (List ℕ) → List (List ℕ)
filled_by (s ∷ ss) (w ∷ ws) (c ∷ cs) = filled s w c ∷ filled_by ss ws cs
filled_by (s ∷ ss) (w ∷ ws) [] = []
filled_by (s ∷ ss) [] cs = []
filled_by [] ws cs = []

-- the cells of a row, each filled to the width of its column
abbrev pub fitted : List ℕ → List (List ℕ) → List (List ℕ)
fitted ws cells = filled_by sides ws cells

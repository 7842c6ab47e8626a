-- How a reader of CSV reads a text, byte after byte. Assumes nothing.
use Rattle.std.specs.Prelude.{ℕ, List, [], ◌∷◌, ◌++◌, Option, Some, None, ◌==◌, ◌||◌, if◌then◌else◌}
use Rattle.std.specs.Option.{option_map}

-- where the reader is: where a field begins, in a field without quotes, in quotes, behind a quote in them, or behind a carriage return
pub data Place : Type 0 where
  start : Place
  bare : Place
  quoted : Place
  behind_quote : Place
  behind_return : Place

-- what is read of a text from a place, where so much of a field and so many fields of a row have been read; None where it is no CSV
abbrev pub read_on : Place → List ℕ → List (List ℕ) → List ℕ → Option (List (List (List ℕ)))
read_on start field [] [] = Some []
read_on start field (c ∷ row) [] = None
read_on bare field row [] = None
read_on quoted field row [] = None
read_on behind_quote field row [] = None
read_on behind_return field row [] = None
read_on start field row (b ∷ text) =
    if b == 34 then read_on quoted [] row text
    else if b == 44 then read_on start [] (row ++ [] ∷ []) text
    else if b == 13 then read_on behind_return [] (row ++ [] ∷ []) text
    else if b == 10 then None
    else read_on bare (b ∷ []) row text
read_on bare field row (b ∷ text) =
    if b == 44 then read_on start [] (row ++ field ∷ []) text
    else if b == 13 then read_on behind_return [] (row ++ field ∷ []) text
    else if (b == 34) || (b == 10) then None
    else read_on bare (field ++ b ∷ []) row text
read_on quoted field row (b ∷ text) =
    if b == 34 then read_on behind_quote field row text else read_on quoted (field ++ b ∷ []) row text
read_on behind_quote field row (b ∷ text) =
    if b == 34 then read_on quoted (field ++ 34 ∷ []) row text
    else if b == 44 then read_on start [] (row ++ field ∷ []) text
    else if b == 13 then read_on behind_return [] (row ++ field ∷ []) text
    else None
read_on behind_return field row (b ∷ text) =
    if b == 10 then option_map (λ rows. row ∷ rows) (read_on start [] [] text) else None

-- the rows of a text of CSV
abbrev pub csv_rows : List ℕ → Option (List (List (List ℕ)))
csv_rows text = read_on start [] [] text

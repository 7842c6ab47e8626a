-- How a cell is written in each form. Assumes nothing.
use Rattle.std.specs.Prelude.{ℕ, Bool, List, [], ◌∷◌, ◌++◌, map, codes, ◌==◌, ◌||◌, if◌then◌else◌, encode_utf8_all}
use Rattle.std.specs.List.{flat_map, list_any}
use Rattle.std.specs.Char.{is_control}
use Rattle.std.specs.Str.{chars}

-- a control character is shown as a question mark
abbrev pub shown_char : ℕ → ℕ
shown_char c = if is_control c then 63 else c

-- the text as it can be shown
abbrev pub shown : List ℕ → List ℕ
shown text = encode_utf8_all (map shown_char (chars text))

-- the byte cannot stand in a field of CSV without quotes: it is a comma, a quote, a carriage return or a line feed
abbrev pub asks_quotes : ℕ → Bool
asks_quotes b = (b == 44) || (b == 34) || (b == 13) || (b == 10)

-- a quote stands twice
abbrev pub doubled : ℕ → List ℕ
doubled b = if b == 34 then 34 ∷ 34 ∷ [] else b ∷ []

-- a field of CSV, in quotes where it has to be
abbrev pub csv_field : List ℕ → List ℕ
csv_field text = if list_any asks_quotes text then 34 ∷ flat_map doubled text ++ 34 ∷ [] else text

-- LaTeX's own characters, and what begins an argument behind the end of a line, so that they are printed
abbrev pub latex_byte : ℕ → List ℕ
latex_byte b =
    if b == 92 then codes "\\textbackslash{}"
    else if b == 126 then codes "\\textasciitilde{}"
    else if b == 94 then codes "\\textasciicircum{}"
    else if (b == 123) || (b == 125) || (b == 36) || (b == 38) || (b == 35) || (b == 95) || (b == 37) then 92 ∷ b ∷ []
    else if (b == 91) || (b == 42) then 123 ∷ b ∷ 125 ∷ []
    else b ∷ []

-- a text in LaTeX
abbrev pub latex_text : List ℕ → List ℕ
latex_text text = flat_map latex_byte text

-- A table in bytes, in each of its forms. Assumes nothing.
use Rattle.std.specs.Prelude.{◌≡◌, ℕ, List, [], ◌∷◌, ◌++◌, map, codes}
use Rattle.std.specs.List.{All, flat_map}
use Rattle.tables.specs.declared.forms.Form.{Form}
use Rattle.tables.specs.declared.forms.Form.TheVariants as form
use Rattle.tables.specs.Rows.{headings}
use Rattle.tables.specs.Texts.{shown, csv_field, latex_text}
use Rattle.tables.specs.Widths.{width, widths, fitted}

-- how the text of a cell stands in its line
abbrev pub cell_in : Form → List ℕ → List ℕ
cell_in form.Aligned text = text
cell_in form.Csv text = csv_field text
cell_in form.Latex text = latex_text text

-- what stands between two cells
abbrev pub gap_of : Form → List ℕ
gap_of form.Aligned = codes "  "
gap_of form.Csv = codes ","
gap_of form.Latex = codes " & "

-- what stands behind the last cell of a line
abbrev pub end_of : Form → List ℕ
end_of form.Aligned = codes "\n"
end_of form.Csv = codes "\r\n"
end_of form.Latex = codes " \\\\\n"

-- what stands before the headings, below them, and behind the last row
abbrev pub opening_of : Form → List ℕ
opening_of form.Aligned = []
opening_of form.Csv = []
opening_of form.Latex = codes "\\begin{tabular}{lrrlllrr}\n"

abbrev pub rule_of : Form → List ℕ
rule_of form.Aligned = []
rule_of form.Csv = []
rule_of form.Latex = codes "\\hline\n"

abbrev pub closing_of : Form → List ℕ
closing_of form.Aligned = []
closing_of form.Csv = []
closing_of form.Latex = codes "\\end{tabular}\n"

-- the cells of a row in one line
abbrev pub line_in : Form → List (List ℕ) → List ℕ
line_in f [] = end_of f
line_in f (c ∷ cs) = cell_in f c ++ (flat_map (λ d. gap_of f ++ cell_in f d) cs ++ end_of f)

-- the headings and the rows, line after line
abbrev pub lines_in : Form → List (List ℕ) → List (List (List ℕ)) → List ℕ
lines_in f heads rows = opening_of f ++ (line_in f heads ++ (rule_of f ++ (flat_map (line_in f) rows ++ closing_of f)))

-- the rows with each cell as it can be shown
abbrev pub shown_rows : List (List (List ℕ)) → List (List (List ℕ))
shown_rows rows = map (map shown) rows

-- the headings and the rows, with each cell filled to the width of its column
abbrev pub aligned_in : List (List ℕ) → List (List (List ℕ)) → List ℕ
aligned_in heads rows = let ws = widths (heads ∷ rows) in lines_in form.Aligned (fitted ws heads) (map (fitted ws) rows)

-- a table of these rows, with the headings above them
abbrev pub table_in : Form → List (List (List ℕ)) → List ℕ
table_in form.Aligned rows = aligned_in headings (shown_rows rows)
table_in form.Csv rows = lines_in form.Csv headings rows
table_in form.Latex rows = lines_in form.Latex headings (shown_rows rows)

-- the text is one line for each of these rows, and there are widths of which each cell in each line has that of its column
abbrev pub InColumns : List (List (List ℕ)) → List ℕ → Type 0
InColumns rows text =
    (ws : List ℕ) × (text ≡ flat_map (line_in form.Aligned) (map (fitted ws) rows)) × All (λ row. map width (fitted ws row) ≡ ws) rows

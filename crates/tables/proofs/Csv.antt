-- What is written in CSV is read back.
use Rattle.std.proofs.Common.{◌≡◌, codes, drop, string_bytes, ℕ, Bool, true, false, List, [], ◌∷◌, ◌++◌, map, Option, Some, ◌==◌, ◌||◌, refl, sym, ◌∙◌, ap}
use Rattle.std.specs.List.{flat_map, list_any}
use Rattle.std.specs.Option.{option_map}
use Rattle.std.proofs.lemmas.List.{append-nil, append_assoc}
use Rattle.tables.proofs.Bytes.{by_byte}
use Rattle.tables.specs.declared.forms.Form.TheVariants as form
use Rattle.tables.specs.declared.rows.Row.{Row}
use Rattle.tables.specs.Rows.{cells, headings}
use Rattle.tables.specs.Texts.{asks_quotes, doubled, csv_field}
use Rattle.tables.specs.Forms.{line_in, lines_in}
use Rattle.tables.specs.Reading.{start, bare, quoted, behind_quote, behind_return, read_on, csv_rows}

abbrev Rows : Type 0
Rows = Option (List (List (List ℕ)))

in_quotes : (text field : List ℕ) (row : List (List ℕ)) (rest : List ℕ) → read_on quoted field row (flat_map doubled text ++ 34 ∷ rest) ≡ read_on behind_quote (field ++ text) row rest
in_quotes [] field row rest = ap (λ f. read_on behind_quote f row rest) (sym (append-nil field))
in_quotes (b ∷ t) field row rest =
    by_byte (λ x. read_on quoted field row (flat_map doubled (x ∷ t) ++ 34 ∷ rest) ≡ read_on behind_quote (field ++ x ∷ t) row rest) 34 b
    (in_quotes t (field ++ 34 ∷ []) row rest ∙ ap (λ f. read_on behind_quote f row rest) (append_assoc field (34 ∷ []) t))
    (λ e. rw e (rw e (in_quotes t (field ++ b ∷ []) row rest ∙ ap (λ f. read_on behind_quote f row rest) (append_assoc field (b ∷ []) t))))

none_of : (x y : Bool) → (x || y) ≡ false → (x ≡ false) × (y ≡ false)
none_of true true e = (e, e)
none_of true false e = (e, refl)
none_of false y e = (refl, e)

-- a byte that asks for no quotes is none of the four
plain : (b : ℕ) → asks_quotes b ≡ false → ((b == 44) ≡ false) × ((b == 34) ≡ false) × ((b == 13) ≡ false) × ((b == 10) ≡ false)
plain b e =
    let first = none_of ((b == 44) || (b == 34) || (b == 13)) (b == 10) e in
    let second = none_of ((b == 44) || (b == 34)) (b == 13) first.0 in
    let third = none_of (b == 44) (b == 34) second.0 in
    (third.0, third.1, second.1, first.1)

without_quotes : (text field : List ℕ) (row : List (List ℕ)) (rest : List ℕ) → list_any asks_quotes text ≡ false → read_on bare field row (text ++ rest) ≡ read_on bare (field ++ text) row rest
without_quotes [] field row rest e = ap (λ f. read_on bare f row rest) (sym (append-nil field))
without_quotes (b ∷ t) field row rest e =
    let both = none_of (asks_quotes b) (list_any asks_quotes t) e in
    let p = plain b both.0 in
    rw p.0 (rw p.2 (rw p.1 (rw p.3 (without_quotes t (field ++ b ∷ []) row rest both.1 ∙ ap (λ f. read_on bare f row rest) (append_assoc field (b ∷ []) t)))))

-- a byte that ends a field, and how the reader goes on behind it
module _ (s : ℕ) (K : List (List ℕ) → List ℕ → Rows)
    (at_start : (row : List (List ℕ)) (rest : List ℕ) → read_on start [] row (s ∷ rest) ≡ K (row ++ [] ∷ []) rest)
    (at_bare : (f : List ℕ) (row : List (List ℕ)) (rest : List ℕ) → read_on bare f row (s ∷ rest) ≡ K (row ++ f ∷ []) rest)
    (at_quote : (f : List ℕ) (row : List (List ℕ)) (rest : List ℕ) → read_on behind_quote f row (s ∷ rest) ≡ K (row ++ f ∷ []) rest) where
  bare_field : (text : List ℕ) (row : List (List ℕ)) (rest : List ℕ) → list_any asks_quotes text ≡ false → read_on start [] row (text ++ s ∷ rest) ≡ K (row ++ text ∷ []) rest
  bare_field [] row rest e = at_start row rest
  bare_field (b ∷ t) row rest e =
      let both = none_of (asks_quotes b) (list_any asks_quotes t) e in
      let p = plain b both.0 in
      rw p.1 (rw p.0 (rw p.2 (rw p.3 (without_quotes t (b ∷ []) row (s ∷ rest) both.1 ∙ at_bare (b ∷ t) row rest))))

  quoted_field : (text : List ℕ) (row : List (List ℕ)) (rest : List ℕ) → read_on start [] row ((34 ∷ flat_map doubled text ++ 34 ∷ []) ++ s ∷ rest) ≡ K (row ++ text ∷ []) rest
  quoted_field text row rest =
      ap (λ l. read_on quoted [] row l) (append_assoc (flat_map doubled text) (34 ∷ []) (s ∷ rest)) ∙ (in_quotes text [] row (s ∷ rest) ∙ at_quote text row rest)

  field_by : (v : Bool) (text : List ℕ) (row : List (List ℕ)) (rest : List ℕ) → list_any asks_quotes text ≡ v → read_on start [] row (csv_field text ++ s ∷ rest) ≡ K (row ++ text ∷ []) rest
  field_by true text row rest e = rw e (quoted_field text row rest)
  field_by false text row rest e = rw e (bare_field text row rest e)

-- a field before a comma, and before the end of a line
before_comma : (text : List ℕ) (row : List (List ℕ)) (rest : List ℕ) → read_on start [] row (csv_field text ++ 44 ∷ rest) ≡ read_on start [] (row ++ text ∷ []) rest
before_comma text row rest = field_by 44 (λ r t. read_on start [] r t) (λ r t. refl) (λ f r t. refl) (λ f r t. refl) (list_any asks_quotes text) text row rest refl

before_end : (text : List ℕ) (row : List (List ℕ)) (rest : List ℕ) → read_on start [] row (csv_field text ++ 13 ∷ rest) ≡ read_on behind_return [] (row ++ text ∷ []) rest
before_end text row rest = field_by 13 (λ r t. read_on behind_return [] r t) (λ r t. refl) (λ f r t. refl) (λ f r t. refl) (list_any asks_quotes text) text row rest refl

regroup : (a b c d rest : List ℕ) → (a ++ ((44 ∷ b ++ c) ++ d)) ++ rest ≡ a ++ 44 ∷ ((b ++ (c ++ d)) ++ rest)
regroup a b c d rest = append_assoc a ((44 ∷ b ++ c) ++ d) rest ∙ ap (λ l. a ++ 44 ∷ (l ++ rest)) (append_assoc b c d)

line_read : (cs : List (List ℕ)) (c : List ℕ) (row : List (List ℕ)) (rest : List ℕ) → read_on start [] row (line_in form.Csv (c ∷ cs) ++ rest) ≡ option_map (λ rows. (row ++ c ∷ cs) ∷ rows) (read_on start [] [] rest)
line_read [] c row rest =
    ap (λ l. read_on start [] row l) (append_assoc (csv_field c) (13 ∷ 10 ∷ []) rest) ∙ before_end c row (10 ∷ rest)
line_read (d ∷ ds) c row rest =
    ap (λ l. read_on start [] row l) (regroup (csv_field c) (csv_field d) (flat_map (λ e. 44 ∷ csv_field e) ds) (13 ∷ 10 ∷ []) rest)
    ∙ (before_comma c row (line_in form.Csv (d ∷ ds) ++ rest) ∙ (line_read ds d (row ++ c ∷ []) rest ∙ ap (λ r. option_map (λ rows. r ∷ rows) (read_on start [] [] rest)) (append_assoc row (c ∷ []) (d ∷ ds))))

lines_read : (rs : List Row) → read_on start [] [] (flat_map (line_in form.Csv) (map cells rs)) ≡ Some (map cells rs)
lines_read [] = refl
lines_read (r ∷ rs) = line_read (drop 1 (cells r)) (string_bytes r.name) [] (flat_map (line_in form.Csv) (map cells rs)) ∙ ap (option_map (λ rows. cells r ∷ rows)) (lines_read rs)

-- of a table, the headings and the rows
pub table_read : (rs : List Row) → csv_rows (lines_in form.Csv headings (map cells rs)) ≡ Some (headings ∷ map cells rs)
table_read rs =
    line_read (drop 1 headings) (codes "run") [] (flat_map (line_in form.Csv) (map cells rs) ++ [])
    ∙ ap (option_map (λ rows. headings ∷ rows)) (ap csv_rows (append-nil (flat_map (line_in form.Csv) (map cells rs))) ∙ lines_read rs)

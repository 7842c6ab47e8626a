-- Fields one after the other. Assumes nothing.
use Rattle.std.proofs.Common.{◌≡◌, ℕ, ◌*◌, List, [], ◌∷◌, ◌++◌, length, get_or, take, ◌+◌, ◌<◌, sym, ap, ◌∙◌, mul-zero, mul-suc, arith, length-append, refl}
use Rattle.std.proofs.lemmas.List.{flat_map_more, take_more}
use Rattle.memory.specs.declared.lines.Line.{Line}
use Rattle.memory.specs.declared.records.Record.{Record}
use Rattle.wire.specs.Bytes.{all_of, record_field, line_field, lines_body}

-- the fields of elements: one more at the end
pub fields_end : {X : Type 0} (f : X → List ℕ) (xs : List X) (x : X) → all_of f (xs ++ x ∷ []) ≡ all_of f xs ++ f x
fields_end f xs x = sym (flat_map_more f [] xs x)

-- those of the first elements: one more
pub fields_more : {X : Type 0} (f : X → List ℕ) (xs : List X) (i : ℕ) (x : X) → i < length xs → x ≡ get_or xs i x → all_of f (take i xs) ++ f x ≡ all_of f (take (i + 1) xs)
fields_more f xs i x lt is = sym (fields_end f (take i xs) x) ∙ ap (λ y. all_of f (take i xs ++ y ∷ [])) is ∙ ap (all_of f) (sym (take_more xs i x lt))

-- the fields of elements, where each is w bytes wide
module _ {X : Type 0} (f : X → List ℕ) (w : ℕ) (wide : (x : X) → length (f x) ≡ w) where
  pub fields_long : (xs : List X) → length (all_of f xs) ≡ w * length xs
  fields_long [] = sym (mul-zero w)
  fields_long (x ∷ xs) = omega (arith, length-append (f x) (all_of f xs), wide x, fields_long xs, mul-suc w (length xs))

-- the fields of records, and those of lines
pub records_long : (rs : List Record) → length (all_of record_field rs) ≡ 33 * length rs
records_long = fields_long record_field 33 (λ r. refl)

pub all_of_end : (rs : List Record) (r : Record) → all_of record_field (rs ++ r ∷ []) ≡ all_of record_field rs ++ record_field r
all_of_end = fields_end record_field

pub lines_long : (ls : List Line) → length (lines_body ls) ≡ 7 * length ls
lines_long = fields_long line_field 7 (λ l. refl)

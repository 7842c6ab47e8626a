-- A whole field at a place of the bytes, or none. Assumes nothing.
use Rattle.std.specs.Prelude.{◌≡◌, ℕ, ◌+◌, ◌≤◌, List, ◌∷◌, ◌++◌, length, drop, Err}
use Rattle.wire.specs.declared.fields.Text.{Text}
use Rattle.wire.specs.Bytes.{field}
use Rattle.wire.specs.Fields.{whole, pieces, next_field, fault_at}

-- a field with this tag and content stands at the place
pub record Framed (bs : List ℕ) (at tag : ℕ) (content : List ℕ) : Type 0 where
  pub fits : at + 3 + length content ≤ length bs
  pub bytes : drop at bs ≡ field tag content ++ drop (at + 3 + length content) bs
  pub pieces : pieces (drop at bs) ≡ whole tag content ∷ pieces (drop (at + 3 + length content) bs)

-- no field does
abbrev pub Unframed : List ℕ → ℕ → Type 0
Unframed bs at = (t : Text) → next_field t at (pieces (drop at bs)) ≡ Err (fault_at at)

-- What holds of a byte, be it a given one or not.
use Rattle.std.proofs.Common.{◌≡◌, ℕ, false, ◌==◌, sym, subst, inl, inr}
use Rattle.std.proofs.lemmas.Bool.{cases_eq, ne_eqb}

pub by_byte : (P : ℕ → Type 0) (k b : ℕ) → P k → ((b == k) ≡ false → P b) → P b
by_byte P k b at other = elim (cases_eq b k) [ inl e ↦ subst P (sym e) at | inr n ↦ other (ne_eqb b k n) ]

-- Whether a head has a mark.
use Rattle.std.proofs.Common.{◌≡◌, ℕ, List, Option, Some, None, eqb, get_or, refl, ap, ◌∙◌}
use Rattle.std.specs.Option.{option_eq, unwrap_or}
use Rattle.std.specs.List.{slice_get}
use Rattle.std.proofs.lemmas.Option.{unwrap_or-slice_get}

-- a byte that is not there is no mark, as 0 is none
same : (o : Option ℕ) → option_eq eqb o (Some 3) ≡ eqb (unwrap_or o 0) 3
same None = refl
same (Some x) = refl

-- the mark at a place is 3
pub marks : (run : List ℕ) (i : ℕ) → option_eq eqb (slice_get run i) (Some 3) ≡ eqb (get_or run i 0) 3
marks run i = same (slice_get run i) ∙ ap (λ k. eqb k 3) (unwrap_or-slice_get run i 0)

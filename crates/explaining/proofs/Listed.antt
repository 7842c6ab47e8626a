-- Rows that are listed one by one.
use Rattle.std.proofs.Common.{◌≡◌, ℕ, ◌+◌, ◌<◌, List, [], ◌∷◌, ◌++◌, length, slice_index_or, ap, sym, ◌∙◌, subst, below_more, arith}
use Rattle.std.proofs.lemmas.List.{get_or_append_left, length-append}
use Rattle.std.proofs.Math.Seq.{get_or-append_seam}
use Rattle.explaining.specs.Rows.{AreRows}

pub none : {T : Type 0} (Is : ℕ → T → Type 0) → AreRows Is 0 []
none Is = (omega arith, λ d i h. absurd (omega arith))

pub one_more : {T : Type 0} (Is : ℕ → T → Type 0) (rows : List T) (i : ℕ) (y : T) → AreRows Is i rows → Is i y → AreRows Is (i + 1) (rows ++ y ∷ [])
one_more {T} Is rows i y (long, each) is =
    let longer : length (rows ++ y ∷ []) ≡ i + 1 = length-append rows (y ∷ []) ∙ ap (λ n. n + 1) long in (
      longer,
      λ d. below_more (λ k. Is k (slice_index_or (rows ++ y ∷ []) k d)) i
          (λ k h. let lt : k < length rows = omega (arith, long, h) in
          let P : T → Type 0 = Is k in subst P (sym (get_or_append_left rows (y ∷ []) d k lt)) (each d k h))
          (let P : T → Type 0 = Is i in
          let at_end : slice_index_or (rows ++ y ∷ []) i d ≡ y = ap (λ n. slice_index_or (rows ++ y ∷ []) n d) (sym long) ∙ get_or-append_seam rows y [] d in
          subst P (sym at_end) is),
    )

pub pushed : {T : Type 0} (Is : ℕ → T → Type 0) (rows new : List T) (i : ℕ) (y : T) → new ≡ rows ++ y ∷ [] → AreRows Is i rows → Is i y → AreRows Is (i + 1) new
pushed {T} Is rows new i y grown are is = let P : List T → Type 0 = AreRows Is (i + 1) in subst P (sym grown) (one_more Is rows i y are is)

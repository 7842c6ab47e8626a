-- The fields of bytes, for a reader that stands at a place. Assumes nothing.
use Rattle.std.proofs.Common.{◌≡◌, ℕ, zero, suc, ◌+◌, ◌*◌, ◌/◌, ◌%◌, ◌<◌, ◌≤◌, Bool, true, false, leb, List, [], ◌∷◌, ◌++◌, length, get_or, take, drop, Err, sym, refl, ap, ◌∙◌, arith, length-take-le}
use Rattle.std.proofs.lemmas.List.{drop-drop, length-drop, take-append-drop}
use Rattle.std.proofs.lemmas.Bool.{le-leb, lt-leb}
use Rattle.wire.specs.declared.fields.Text.{Text}
use Rattle.wire.specs.Fields.{whole, broken, piece_on, pieces_in, pieces, next_field, fault_at}
use Rattle.wire.specs.Framed.{Framed, Unframed}

-- more fuel than there are bytes changes nothing
pub fuel : (k j : ℕ) (bs : List ℕ) → length bs ≤ k → length bs ≤ j → pieces_in k bs ≡ pieces_in j bs
fuel zero zero bs h g = refl
fuel zero (suc j) [] h g = refl
fuel zero (suc j) (t ∷ bs) h g = absurd (omega arith)
fuel (suc k) zero [] h g = refl
fuel (suc k) zero (t ∷ bs) h g = absurd (omega arith)
fuel (suc k) (suc j) [] h g = refl
fuel (suc k) (suc j) (t ∷ []) h g = refl
fuel (suc k) (suc j) (t ∷ a ∷ []) h g = refl
fuel (suc k) (suc j) (t ∷ a ∷ b ∷ bs) h g = go (leb n (length bs)) (fuel k j (drop n bs) (omega (arith, length-drop n bs)) (omega (arith, length-drop n bs)))
  where
    n : ℕ
    n = a * 256 + b

    go : (z : Bool) → pieces_in k (drop n bs) ≡ pieces_in j (drop n bs) → piece_on z t (take n bs) (λ _. pieces_in k (drop n bs)) ≡ piece_on z t (take n bs) (λ _. pieces_in j (drop n bs))
    go true e = ap (λ ps. whole t (take n bs) ∷ ps) e
    go false e = refl

-- a field of h * 256 + l bytes is whole
pub found_whole : (t h l : ℕ) (xs : List ℕ) → h * 256 + l ≤ length xs → pieces (t ∷ h ∷ l ∷ xs) ≡ whole t (take (h * 256 + l) xs) ∷ pieces (drop (h * 256 + l) xs)
unfolding pieces
found_whole t h l xs fits =
    let n : ℕ = h * 256 + l in
    ap (λ z. piece_on z t (take n xs) (λ _. pieces_in (suc (suc (length xs))) (drop n xs))) (le-leb n (length xs) fits)
    ∙ ap (λ ps. whole t (take n xs) ∷ ps) (fuel (suc (suc (length xs))) (length (drop n xs)) (drop n xs) (omega (arith, length-drop n xs)) (omega arith))

-- it is cut short
pub found_cut : (t h l : ℕ) (xs : List ℕ) → length xs < h * 256 + l → pieces (t ∷ h ∷ l ∷ xs) ≡ broken ∷ []
unfolding pieces
found_cut t h l xs short = let n : ℕ = h * 256 + l in ap (λ z. piece_on z t (take n xs) (λ _. pieces_in (suc (suc (length xs))) (drop n xs))) (lt-leb n (length xs) short)

-- three bytes stand at the front
pub three : (xs front rest : List ℕ) → 3 ≤ length xs → front ≡ take 3 xs → rest ≡ drop 3 xs → xs ≡ get_or front 0 0 ∷ get_or front 1 0 ∷ get_or front 2 0 ∷ rest
three [] front rest h a b = absurd (omega arith)
three (x ∷ []) front rest h a b = absurd (omega arith)
three (x ∷ y ∷ []) front rest h a b = absurd (omega arith)
three (x ∷ y ∷ z ∷ xs) front rest h a b = let f = sym a in let r = sym b in λ i. get_or (f i) 0 0 ∷ get_or (f i) 1 0 ∷ get_or (f i) 2 0 ∷ r i

-- fewer are no field
no_field : (t : Text) (at : ℕ) (xs : List ℕ) → length xs < 3 → next_field t at (pieces xs) ≡ Err (fault_at at)
unfolding pieces
no_field t at [] h = refl
no_field t at (a ∷ []) h = refl
no_field t at (a ∷ b ∷ []) h = refl
no_field t at (a ∷ b ∷ c ∷ xs) h = absurd (omega arith)

pub few : (bs : List ℕ) (at : ℕ) → length (drop at bs) < 3 → Unframed bs at
few bs at h t = no_field t at (drop at bs) h

-- what stands at a place of the bytes: a tag, a length in two bytes, and the rest
module _ (bs : List ℕ) (at t h l : ℕ) (rest : List ℕ) (is : drop at bs ≡ t ∷ h ∷ l ∷ rest) where
  pub unframed : length rest < h * 256 + l → Unframed bs at
  unframed short t' = ap (λ xs. next_field t' at (pieces xs)) is ∙ ap (next_field t' at) (found_cut t h l rest short)

  pub framed : (content : List ℕ) → content ≡ take (h * 256 + l) rest → h * 256 + l ≤ length rest → h < 256 → l < 256 → Framed bs at t content
  framed content cut fits high low =
      let n : ℕ = h * 256 + l in
      let long : length content ≡ n = ap length cut ∙ length-take-le n rest fits in
      let room : length bs ≡ at + 3 + length rest = omega (arith, length-drop at bs, ap length is) in
      let a : h ≡ length content / 256 % 256 = omega arith in
      let b : l ≡ length content % 256 = omega arith in
      let back : drop n rest ≡ drop (at + 3 + length content) bs =
      ap (λ xs. drop n (drop 3 xs)) (sym is) ∙ drop-drop n 3 (drop at bs) ∙ drop-drop (3 + n) at bs ∙ ap (λ k. drop k bs) (omega arith)
      in
      let whole_rest : rest ≡ content ++ drop (at + 3 + length content) bs = sym (take-append-drop n rest) ∙ (let c = sym cut in λ i. c i ++ back i) in
      record {
        fits = omega arith;
        bytes = is ∙ (λ i. t ∷ a i ∷ b i ∷ whole_rest i);
        pieces = ap pieces is ∙ found_whole t h l rest fits ∙ (let c = sym cut in λ i. whole t (c i) ∷ pieces (back i));
      }

use Rattle.std.proofs.Common.{◌≡◌, ℕ, ◌+◌, ◌<◌, List, ◌∷◌, ◌++◌, length, get_or, take, drop, Some, sym, refl, ap, ◌∙◌, arith}
use Rattle.std.proofs.lemmas.List.{get_or-take, drop-drop, length-drop, take_all}
use Rattle.std.proofs.lemmas.Bool.{cond-true}
use Rattle.std.specs.Bool.{◌==◌}
use Rattle.wire.specs.Bytes.{digits}
use Rattle.wire.proofs.Digits.{Number, number_4, number_8, entry_whole}
use Rattle.wire.proofs.fields.decode.EntryContent.read.Goals as goal

-- a part of a content that is cut off the rest, and the rest behind it
cut : (c r p q : List ℕ) (i w j : ℕ) → r ≡ drop i c → p ≡ take w r → q ≡ drop w r → j ≡ i + w → (p ≡ take w (drop i c)) × (q ≡ drop j c)
cut c r p q i w j a b d e = (b ∙ ap (take w) a, d ∙ ap (drop w) a ∙ drop-drop w i c ∙ ap (λ n. drop n c) (sym e))

-- what the parts of a content say
record Said (c two : List ℕ) (a v e x : ℕ) : Type 0 where
  pub long : length c ≡ 30
  pub first : get_or two 0 0 ≡ get_or c 0 0
  pub second : get_or two 1 0 ≡ get_or c 1 0
  pub address : Number c 2 4 a
  pub value : Number c 6 8 v
  pub enter : Number c 14 8 e
  pub commit : Number c 22 8 x

said : (c : goal.After-from_be_bytes-4) → Said c.args.content.now c.in_ok-front.front.now c.from_be_bytes.result c.from_be_bytes-2.result c.from_be_bytes-3.result c.from_be_bytes-4.result
said c =
    let cs : List ℕ = c.args.content.now in
    let small : (i : ℕ) → get_or cs i 0 < 256 = λ i. (c.type_inv.content i).fits in
    let f = c.in_ok-front.ensures.cases in
    let a = c.in_ok-address.ensures.cases in
    let v = c.in_ok-value.ensures.cases in
    let e = c.in_ok-enter.ensures.cases in
    let x = c.in_ok-commit.ensures.cases in
    let eight : length c.in_ok-enter.rest.now ≡ 8 = c.in_ok-commit.ensures.variant.0 refl in
    let long : length cs ≡ 30 = omega (arith, f.2, a.2, v.2, e.2, eight) in
    let ca = cut cs _ _ _ 2 4 6 f.1 a.0 a.1 refl in
    let cv = cut cs _ _ _ 6 8 14 ca.1 v.0 v.1 refl in
    let ce = cut cs _ _ _ 14 8 22 cv.1 e.0 e.1 refl in
    let last : c.in_ok-commit.commit.now ≡ take 8 (drop 22 cs) = x.same ∙ ce.1 ∙ sym (take_all 8 (drop 22 cs) (omega (arith, length-drop 22 cs))) in
    record {
      long = long;
      first = ap (λ xs. get_or xs 0 0) f.0 ∙ get_or-take 2 cs 0 0 (omega arith);
      second = ap (λ xs. get_or xs 1 0) f.0 ∙ get_or-take 2 cs 1 0 (omega arith);
      address = number_4 cs _ 2 _ small ca.0 (omega arith) c.from_be_bytes.type_inv c.from_be_bytes.ensures;
      value = number_8 cs _ 6 _ small cv.0 (omega arith) c.from_be_bytes-2.type_inv c.from_be_bytes-2.ensures;
      enter = number_8 cs _ 14 _ small ce.0 (omega arith) c.from_be_bytes-3.type_inv c.from_be_bytes-3.ensures;
      commit = number_8 cs _ 22 _ small last (omega arith) c.from_be_bytes-4.type_inv c.from_be_bytes-4.ensures;
    }

pub returns-clause-value : goal.returns-clause-value
returns-clause-value c =
    let s = said c in
    (λ i. Some (record { processor = s.first i; kind = s.second i; address = s.address.value i; value = s.value.value i; enter = s.enter.value i; commit = s.commit.value i })) ∙ sym (cond-true _ _ _ (ap (λ n. n == 30) s.long))

pub returns-clause-back : goal.returns-clause-back
returns-clause-back c =
    let s = said c in
    let cs : List ℕ = c.args.content.now in
    (λ i. s.first i ∷ s.second i ∷ (digits 4 c.from_be_bytes.result ++ (digits 8 c.from_be_bytes-2.result ++ (digits 8 c.from_be_bytes-3.result ++ digits 8 c.from_be_bytes-4.result))))
    ∙ entry_whole cs _ _ _ _ s.long s.address.back s.value.back s.enter.back s.commit.back

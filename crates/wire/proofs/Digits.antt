-- A number and its bytes. Assumes nothing.
use Rattle.std.proofs.Common.{◌≡◌, ℕ, zero, suc, ◌+◌, ◌*◌, ◌/◌, ◌%◌, ◌^◌, ◌<◌, ◌≤◌, List, [], ◌∷◌, ◌++◌, length, get_or, take, drop, sym, refl, ap, ◌∙◌, ⊎_elim, append-nil, div-lt_iff_lt-mul, pow-suc, arith, length-take-le}
use native.Mathlib.Nat.{div-div-eq-div-mul}
use Rattle.std.proofs.lemmas.List.{drop_more, drop_all, drop-drop, length-drop, length-take, get_or-take, get_or-drop, get_or_past, take-append-drop}
use Rattle.std.proofs.lemmas.Bool.{cases_lt}
use Rattle.std.proofs.lemmas.Nat.{be_bytes_4, be_bytes_8}
use Rattle.std.specs.Int.{w32, w64, from_be_bytes}
use Rattle.wire.specs.Bytes.{digits, number_on, number_at}

pub number_end : (n : ℕ) (xs : List ℕ) (b : ℕ) → number_on n (xs ++ b ∷ []) ≡ number_on n xs * 256 + b
number_end n [] b = refl
number_end n (x ∷ xs) b = number_end (n * 256 + x) xs b

-- a number that fits w bytes is read back from them
pub digits_back : (w n : ℕ) → n < 256 ^ w → number_on 0 (digits w n) ≡ n
digits_back zero n h = omega arith
digits_back (suc w) n h =
    let less : n / 256 < 256 ^ w = (div-lt_iff_lt-mul {k = 256} {x = n} {y = 256 ^ w} (omega arith)).1 (omega (arith, pow-suc 256 w)) in
    let ih = digits_back w (n / 256) less in
    omega (arith, number_end 0 (digits w (n / 256)) (n % 256))

-- The parts of a content.
part_on : (c : List ℕ) (at w : ℕ) → drop at c ≡ take w (drop at c) ++ drop (at + w) c
part_on c at w = sym (take-append-drop w (drop at c)) ∙ ap (λ xs. take w (drop at c) ++ xs) (drop-drop w at c)

pub entry_whole : (c : List ℕ) (a v e x : ℕ) → length c ≡ 30 → digits 4 a ≡ take 4 (drop 2 c) → digits 8 v ≡ take 8 (drop 6 c) → digits 8 e ≡ take 8 (drop 14 c) → digits 8 x ≡ take 8 (drop 22 c) →
    get_or c 0 0 ∷ get_or c 1 0 ∷ (digits 4 a ++ (digits 8 v ++ (digits 8 e ++ digits 8 x))) ≡ c
entry_whole c a v e x long ha hv he hx =
    let end : digits 8 x ≡ drop 22 c = hx ∙ sym (append-nil (take 8 (drop 22 c))) ∙ ap (λ xs. take 8 (drop 22 c) ++ xs) (sym (drop_all 30 c (omega arith))) ∙ sym (part_on c 22 8) in
    let third : digits 8 e ++ digits 8 x ≡ drop 14 c = (λ i. he i ++ end i) ∙ sym (part_on c 14 8) in
    let second : digits 8 v ++ (digits 8 e ++ digits 8 x) ≡ drop 6 c = (λ i. hv i ++ third i) ∙ sym (part_on c 6 8) in
    let first : digits 4 a ++ (digits 8 v ++ (digits 8 e ++ digits 8 x)) ≡ drop 2 c = (λ i. ha i ++ second i) ∙ sym (part_on c 2 4) in
    ap (λ xs. get_or c 0 0 ∷ get_or c 1 0 ∷ xs) first ∙ sym (ap (λ xs. get_or c 0 0 ∷ xs) (drop_more c 1 0 (omega arith))) ∙ sym (drop_more c 0 0 (omega arith))

-- the bytes of a number of 32 and 64 bits, as the library writes them
pub digits_4 : (n : ℕ) → digits 4 n ≡ (n / 16777216 % 256) ∷ (n / 65536 % 256) ∷ (n / 256 % 256) ∷ (n % 256) ∷ []
digits_4 n = simp div-div-eq-div-mul

pub digits_8 : (n : ℕ) → digits 8 n ≡ (n / 72057594037927936 % 256) ∷ (n / 281474976710656 % 256) ∷ (n / 1099511627776 % 256) ∷ (n / 4294967296 % 256) ∷ (n / 16777216 % 256) ∷ (n / 65536 % 256) ∷ (n / 256 % 256) ∷ (n % 256) ∷ []
digits_8 n = simp div-div-eq-div-mul

-- the w bytes from a place on write this number, which is written as they are
pub record Number (c : List ℕ) (at w n : ℕ) : Type 0 where
  pub value : n ≡ number_at c at w
  pub back : digits w n ≡ take w (drop at c)

module _ (c bs : List ℕ) (at n : ℕ) (small : (i : ℕ) → get_or c i 0 < 256) where
  small_part : (w : ℕ) → bs ≡ take w (drop at c) → (i : ℕ) → get_or bs i 0 < 256
  small_part w is i =
      ⊎_elim
      (λ lt. omega (arith, ap (λ xs. get_or xs i 0) is, get_or-take w (drop at c) i 0 lt, get_or-drop at c i 0, small (at + i)))
      (λ ge. omega (arith, ap (λ xs. get_or xs i 0) is, get_or_past (take w (drop at c)) i 0 (omega (arith, length-take w (drop at c)))))
      (cases_lt i w)

  long_part : (w : ℕ) → bs ≡ take w (drop at c) → at + w ≤ length c → length bs ≡ w
  long_part w is fits = ap length is ∙ length-take-le w (drop at c) (omega (arith, length-drop at c))

  number_in : (w : ℕ) → n < 256 ^ w → digits w n ≡ take w (drop at c) → Number c at w n
  number_in w h back = record { value = sym (digits_back w n h) ∙ ap (number_on 0) back; back = back }

  pub number_4 : bs ≡ take 4 (drop at c) → at + 4 ≤ length c → n < 2 ^ 32 → n ≡ from_be_bytes w32 bs → Number c at 4 n
  number_4 is fits h read = number_in 4 h (digits_4 n ∙ be_bytes_4 bs n (long_part 4 is fits) (small_part 4 is) read ∙ is)

  pub number_8 : bs ≡ take 8 (drop at c) → at + 8 ≤ length c → n < 2 ^ 64 → n ≡ from_be_bytes w64 bs → Number c at 8 n
  number_8 is fits h read = number_in 8 h (digits_8 n ∙ be_bytes_8 bs n (long_part 8 is fits) (small_part 8 is) read ∙ is)

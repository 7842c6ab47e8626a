-- A printed number is read as it is. Assumes nothing.
use Rattle.std.proofs.Common.{◌≡◌, ℕ, ◌+◌, ◌*◌, ◌^◌, ◌<◌, ◌≤◌, Bool, true, false, cond, ◌&&◌, ◌||◌, ◌==◌, List, [], ◌∷◌, ◌++◌, Some, Ok, drop, ap, ◌∙◌, arith, tests, refl, lit≤}
use Rattle.std.specs.Prelude.{option_and_then}
use Rattle.std.specs.Char.{digit_value}
use Rattle.std.specs.Fmt.{digits, decimal}
use Rattle.std.specs.Str.Parse.{AllDigits, IsNumeral, digits_value, digits_value_after}
use Rattle.std.proofs.lemmas.Fmt.{digits_is_IsNumeral}
use Rattle.std.proofs.Math.Nat.{mul-le-mul_left}
use Rattle.logs.specs.declared.troubles.Expected.{Expected}
use Rattle.logs.specs.Numbers.{with_digit, number_on, number_of, is_prefixed, number_in, within, numeral}
use Rattle.logs.specs.Parts.{after_blanks, word_in, behind_word}
use Rattle.logs.proofs.Words.{AllWord, IsClear, digit_is_word, digit_is_ink, keeps, skips, word_is, behind_is}

wide_10 : 2 ^ 64 ≤ 10 ^ 64
wide_10 = lit≤ tt

wide_16 : 2 ^ 64 ≤ 16 ^ 64
wide_16 = lit≤ tt

-- more digits make no smaller number
grows : (radix m : ℕ) (ds : List ℕ) → 1 ≤ radix → m ≤ digits_value_after radix m ds
grows radix m [] h = omega arith
grows radix m (c ∷ cs) h = omega (arith, grows radix (m * radix + digit_value c) cs h, mul-le-mul_left m h)

digit_fits : (radix m c : ℕ) → digit_value c < radix → m * radix + digit_value c < 2 ^ 64 → with_digit radix m c ≡ Some (m * radix + digit_value c)
unfolding with_digit
digit_fits radix m c low fits = grind (arith, tests)

read_on : (radix m : ℕ) (ds : List ℕ) → 1 ≤ radix → AllDigits radix ds → digits_value_after radix m ds < 2 ^ 64 → number_on radix m ds ≡ Some (digits_value_after radix m ds)
read_on radix m [] h all fits = refl
read_on radix m (c ∷ cs) h all fits =
    ap (option_and_then (λ k. number_on radix k cs)) (digit_fits radix m c all.0 (omega (arith, fits, grows radix (m * radix + digit_value c) cs h)))
    ∙ read_on radix (m * radix + digit_value c) cs h all.1 fits

read_all : (radix n : ℕ) (ds : List ℕ) → 1 ≤ radix → IsNumeral radix ds → digits_value radix ds ≡ n → n < 2 ^ 64 → number_of radix ds ≡ Some n
unfolding number_of
read_all radix n [] h is value fits = absurd (omega (arith, is.0))
read_all radix n (c ∷ cs) h is value fits = read_on radix 0 (c ∷ cs) h is.1 (omega (arith, value, fits)) ∙ ap Some value

no_x : (c : ℕ) → digit_value c < 16 → (c == 120 || c == 88) ≡ false
no_x c h = grind (arith, tests)

and_no : (b : Bool) → (b && false) ≡ false
and_no true = refl
and_no false = refl

unprefixed : (radix : ℕ) (ds : List ℕ) → radix ≤ 16 → AllDigits radix ds → is_prefixed ds ≡ false
unprefixed radix [] h all = refl
unprefixed radix (c ∷ []) h all = and_no (c == 48)
unprefixed radix (c ∷ d ∷ ds) h all = ap (λ b. (c == 48) && b) (no_x d (omega (arith, all.1.0))) ∙ and_no (c == 48)

number_is : (radix n : ℕ) (ds : List ℕ) → 1 ≤ radix → radix ≤ 16 → IsNumeral radix ds → digits_value radix ds ≡ n → n < 2 ^ 64 → number_in radix ds ≡ Some n
unfolding number_in
number_is radix n ds low high is value fits =
    ap (λ b. cond b (number_of 16 (drop 2 ds)) (number_of radix ds)) (unprefixed radix ds high is.1) ∙ read_all radix n ds low is value fits

all_word : (radix : ℕ) (ds : List ℕ) → radix ≤ 16 → AllDigits radix ds → AllWord ds
all_word radix [] h all = tt
all_word radix (c ∷ cs) h all = (digit_is_word c (omega (arith, all.0)), all_word radix cs h all.1)

in_front : (radix : ℕ) (ds rest : List ℕ) → radix ≤ 16 → IsNumeral radix ds → after_blanks (ds ++ rest) ≡ ds ++ rest
in_front radix [] rest h is = absurd (omega (arith, is.0))
in_front radix (c ∷ cs) rest h is = keeps c (cs ++ rest) (digit_is_ink c (omega (arith, is.1.0)))

within_is : (most n : ℕ) (e : Expected) (rest : List ℕ) → n ≤ most → within most e (Some n) rest ≡ Ok (n, rest)
within_is most n e rest h = grind (arith, tests)

-- digits that write a number, in front of no more of a word
pub digits_read : (radix most n : ℕ) (e : Expected) (ds rest : List ℕ) → 1 ≤ radix → radix ≤ 16 → IsNumeral radix ds → digits_value radix ds ≡ n → n < 2 ^ 64 → n ≤ most → IsClear rest → numeral radix most e (ds ++ rest) ≡ Ok (n, rest)
unfolding numeral
digits_read radix most n e ds rest low high is value fits small clear =
    ap (λ s. within most e (number_in radix (word_in s)) (behind_word s)) (in_front radix ds rest high is)
    ∙ (ap (λ w. within most e (number_in radix w) (behind_word (ds ++ rest))) (word_is ds rest (all_word radix ds high is.1) clear)
    ∙ (ap (λ r. within most e (number_in radix ds) r) (behind_is ds rest (all_word radix ds high is.1) clear)
    ∙ (ap (λ o. within most e o rest) (number_is radix n ds low high is value fits)
    ∙ within_is most n e rest small)))

pub decimal_read : (most n : ℕ) (e : Expected) (rest : List ℕ) → n < 2 ^ 64 → n ≤ most → IsClear rest → numeral 10 most e (decimal n ++ rest) ≡ Ok (n, rest)
decimal_read most n e rest fits small clear =
    let d = digits_is_IsNumeral 10 false (lit≤ tt) (lit≤ tt) n (omega (arith, fits, wide_10)) in
    digits_read 10 most n e (decimal n) rest (lit≤ tt) (lit≤ tt) d.0 d.1 fits small clear

pub hexadecimal_read : (most n : ℕ) (e : Expected) (rest : List ℕ) → n < 2 ^ 64 → n ≤ most → IsClear rest → numeral 16 most e (digits 16 false n ++ rest) ≡ Ok (n, rest)
hexadecimal_read most n e rest fits small clear =
    let d = digits_is_IsNumeral 16 false (lit≤ tt) (lit≤ tt) n (omega (arith, fits, wide_16)) in
    digits_read 16 most n e (digits 16 false n) rest (lit≤ tt) (lit≤ tt) d.0 d.1 fits small clear

-- the same behind one blank
pub behind_blank : (radix most : ℕ) (e : Expected) (bs : List ℕ) → numeral radix most e (32 ∷ bs) ≡ numeral radix most e bs
unfolding numeral
behind_blank radix most e bs = ap (λ s. within most e (number_in radix (word_in s)) (behind_word s)) (skips bs)

pub decimal_word : (n : ℕ) → n < 2 ^ 64 → AllWord (decimal n)
decimal_word n fits = all_word 10 (decimal n) (lit≤ tt) (digits_is_IsNumeral 10 false (lit≤ tt) (lit≤ tt) n (omega (arith, fits, wide_10))).0.1

pub hexadecimal_word : (n : ℕ) → n < 2 ^ 64 → AllWord (digits 16 false n)
hexadecimal_word n fits = all_word 16 (digits 16 false n) (lit≤ tt) (digits_is_IsNumeral 16 false (lit≤ tt) (lit≤ tt) n (omega (arith, fits, wide_16))).0.1

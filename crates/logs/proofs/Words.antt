-- Words and blanks in front of a rest. Assumes nothing.
use Rattle.std.proofs.Common.{◌≡◌, ℕ, ◌+◌, ◌<◌, true, false, not, cond, List, [], ◌∷◌, ◌++◌, length, take, drop, slice_index, ap, ◌∙◌, arith, tests, refl}
use Prim.Native.Nat.{suc}
use Rattle.std.proofs.Math.Seq.{take-append_seam, drop-append_seam}
use Rattle.std.specs.Char.{digit_value}
use Rattle.std.specs.List.{position_or_len}
use Rattle.logs.specs.Parts.{is_blank, is_word_byte, after_blanks, word_in, behind_word}

-- every byte is one of words
abbrev pub AllWord : List ℕ → Type 0
AllWord [] = Unit {0}
AllWord (b ∷ bs) = (is_word_byte b ≡ true) × AllWord bs

-- no word goes on
abbrev pub IsClear : List ℕ → Type 0
IsClear bs = is_word_byte (slice_index bs 0) ≡ false

pub digit_is_word : (c : ℕ) → digit_value c < 36 → is_word_byte c ≡ true
digit_is_word c h = grind (arith, tests)

pub digit_is_ink : (c : ℕ) → digit_value c < 36 → is_blank c ≡ false
digit_is_ink c h = grind (arith, tests)

-- one blank in front
pub skips : (bs : List ℕ) → after_blanks (32 ∷ bs) ≡ after_blanks bs
unfolding after_blanks
skips bs =
    let k : ℕ = position_or_len (λ b. not (is_blank b)) bs in
    let e : 1 + k ≡ suc k = omega arith in
    ap (λ n. drop n (32 ∷ bs)) e

-- no blank in front
pub keeps : (b : ℕ) (bs : List ℕ) → is_blank b ≡ false → after_blanks (b ∷ bs) ≡ b ∷ bs
unfolding after_blanks
keeps b bs e = ap (λ t. drop (cond (not (not t)) (1 + position_or_len (λ b. not (is_blank b)) bs) 0) (b ∷ bs)) e

clear_place : (rest : List ℕ) → IsClear rest → position_or_len (λ b. not (is_word_byte b)) rest ≡ 0
clear_place [] h = refl
clear_place (b ∷ bs) h = ap (λ t. cond (not (not t)) (1 + position_or_len (λ b. not (is_word_byte b)) bs) 0) h

word_place : (w rest : List ℕ) → AllWord w → IsClear rest → position_or_len (λ b. not (is_word_byte b)) (w ++ rest) ≡ length w
word_place [] rest all clear = clear_place rest clear
word_place (b ∷ w) rest all clear =
    ap (λ t. cond (not (not t)) (1 + position_or_len (λ b. not (is_word_byte b)) (w ++ rest)) 0) all.0 ∙ omega (arith, word_place w rest all.1 clear)

pub word_is : (w rest : List ℕ) → AllWord w → IsClear rest → word_in (w ++ rest) ≡ w
unfolding word_in
word_is w rest all clear = ap (λ n. take n (w ++ rest)) (word_place w rest all clear) ∙ take-append_seam w rest

pub behind_is : (w rest : List ℕ) → AllWord w → IsClear rest → behind_word (w ++ rest) ≡ rest
unfolding behind_word
behind_is w rest all clear = ap (λ n. drop n (w ++ rest)) (word_place w rest all clear) ∙ drop-append_seam w rest

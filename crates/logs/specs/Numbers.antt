-- Numbers in a line. Assumes nothing.
use Rattle.std.specs.Prelude.{ℕ, ◌+◌, ◌*◌, ◌^◌, Bool, cond, ◌||◌, ◌&&◌, List, [], ◌∷◌, drop, Some, None, Option, option_and_then, Ok, Err, Result, ◌==◌, nat_lt, slice_index}
use Rattle.std.specs.Char.{digit_value}
use Rattle.logs.specs.declared.troubles.Expected.{Expected}
use Rattle.logs.specs.Parts.{after_blanks, word_in, behind_word}

-- the number with one more digit, if it is a digit in the radix and the number is below 2^64
unfoldable pub with_digit : ℕ → ℕ → ℕ → Option ℕ
with_digit radix n c = cond (nat_lt (digit_value c) radix && nat_lt (n * radix + digit_value c) (2 ^ 64)) (Some (n * radix + digit_value c)) None

-- the number with these digits behind it
abbrev pub number_on : ℕ → ℕ → List ℕ → Option ℕ
number_on radix n [] = Some n
number_on radix n (c ∷ cs) = option_and_then (λ m. number_on radix m cs) (with_digit radix n c)

-- the number that one digit or more write
unfoldable pub number_of : ℕ → List ℕ → Option ℕ
number_of radix [] = None
number_of radix (c ∷ cs) = number_on radix 0 (c ∷ cs)

-- 0x or 0X stands in front
abbrev pub is_prefixed : List ℕ → Bool
is_prefixed word = slice_index word 0 == 48 && (slice_index word 1 == 120 || slice_index word 1 == 88)

-- the number that a word writes, in hexadecimal behind 0x, else in this radix
unfoldable pub number_in : ℕ → List ℕ → Option ℕ
number_in radix word = cond (is_prefixed word) (number_of 16 (drop 2 word)) (number_of radix word)

-- the number, where it is small enough, and what follows it
abbrev pub within : ℕ → Expected → Option ℕ → List ℕ → Result (ℕ × List ℕ) Expected
within most e None rest = Err e
within most e (Some n) rest = cond (nat_lt most n) (Err e) (Ok (n, rest))

-- the number that the word after the blanks writes, and what follows the word
unfoldable pub numeral : ℕ → ℕ → Expected → List ℕ → Result (ℕ × List ℕ) Expected
numeral radix most e bs = let s = after_blanks bs in within most e (number_in radix (word_in s)) (behind_word s)

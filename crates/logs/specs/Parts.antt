-- What a line begins with: blanks, words, signs. Assumes nothing.
use Rattle.std.specs.Prelude.{ℕ, Bool, true, cond, not, ◌||◌, List, [], ◌∷◌, Ok, Err, Result, ◌==◌, take, drop}
use Rattle.std.specs.Char.{is_ascii_alphanumeric}
use Rattle.std.specs.List.{position_or_len}
use Rattle.std.specs.Str.{str_eq_ignore_ascii_case}
use Rattle.logs.specs.declared.troubles.Expected.{Expected}

-- what f makes of what was read, where it could be read
abbrev pub and_then : {A B E : Type 0} → Result A E → (A → Result B E) → Result B E
and_then (Ok x) f = f x
and_then (Err e) f = Err e

-- space, tab and carriage return
abbrev pub is_blank : ℕ → Bool
is_blank b = b == 32 || (b == 9 || b == 13)

-- letters, digits and _
abbrev pub is_word_byte : ℕ → Bool
is_word_byte b = is_ascii_alphanumeric b || b == 95

-- bytes from their first that is no blank on
unfoldable pub after_blanks : List ℕ → List ℕ
after_blanks bs = drop (position_or_len (λ b. not (is_blank b)) bs) bs

-- the word that bytes begin with, as long as it goes, and what follows it
unfoldable pub word_in : List ℕ → List ℕ
word_in bs = take (position_or_len (λ b. not (is_word_byte b)) bs) bs

unfoldable pub behind_word : List ℕ → List ℕ
behind_word bs = drop (position_or_len (λ b. not (is_word_byte b)) bs) bs

-- a word says this name, in any case of letters
abbrev pub says : List ℕ → List ℕ → Bool
says word name = str_eq_ignore_ascii_case word name

abbrev pub begun_by : ℕ → Expected → List ℕ → Result (List ℕ) Expected
begun_by sign e [] = Err e
begun_by sign e (b ∷ bs) = cond (b == sign) (Ok bs) (Err e)

-- what follows a sign of one byte, with blanks before it
unfoldable pub behind_sign : ℕ → Expected → List ℕ → Result (List ℕ) Expected
behind_sign sign e bs = begun_by sign e (after_blanks bs)

abbrev pub over_at : List ℕ → Bool
over_at [] = true
over_at (b ∷ bs) = b == 35

-- nothing follows but blanks and a comment, which # begins
unfoldable pub is_over : List ℕ → Bool
is_over bs = over_at (after_blanks bs)

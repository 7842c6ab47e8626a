-- Columns, and text line by line. Assumes nothing.
use Rattle.std.specs.Prelude.{◌≡◌, ℕ, ◌<◌, length, slice_index_or, ◌-◌, ◌^◌, false, List, [], ◌++◌, Some, Option, codes, fold}
use Rattle.std.specs.List.{flat_map}
use Rattle.std.specs.Fmt.{styled_decimal, styled_text, padded_integral, format_spec, digits, option_append, with_newline}

-- a number at the right of so many columns, and at the left
abbrev pub right : ℕ → ℕ → List ℕ
right width n = styled_decimal (format_spec 32 3 0 width (2 ^ 64 - 1)) n

abbrev pub left : ℕ → ℕ → List ℕ
left width n = styled_decimal (format_spec 32 1 0 width (2 ^ 64 - 1)) n

-- a number in hexadecimal at their left
abbrev pub left_hex : ℕ → ℕ → List ℕ
left_hex width n = padded_integral (format_spec 32 1 0 width (2 ^ 64 - 1)) false [] (digits 16 false n)

-- a text at their right, and at their left
abbrev pub right_text : ℕ → List ℕ → List ℕ
right_text width text = styled_text (format_spec 32 3 0 width (2 ^ 64 - 1)) text

abbrev pub left_text : ℕ → List ℕ → List ℕ
left_text width text = styled_text (format_spec 32 1 0 width (2 ^ 64 - 1)) text

-- the text of each item on a line of its own; where an item has no known text, neither have they all
abbrev pub each : {T : Type 0} → (T → Option (List ℕ)) → List T → Option (List ℕ)
each text xs = fold (λ told x. option_append told (with_newline (text x))) (Some []) xs

-- the same of items that have known words
abbrev pub lines : {T : Type 0} → (T → List ℕ) → List T → List ℕ
lines words xs = flat_map (λ x. words x ++ codes "\n") xs

-- so many rows, of which the one at each index is the right one
abbrev pub AreRows : {T : Type 0} → (ℕ → T → Type 0) → ℕ → List T → Type 0
AreRows {T} Is n rows = (length rows ≡ n) × ((d : T) (i : ℕ) → i < n → Is i (slice_index_or rows i d))

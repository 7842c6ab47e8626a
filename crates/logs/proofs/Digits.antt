-- Digits that are read one after the other. Assumes nothing.
use Rattle.std.proofs.Common.{◌≡◌, ℕ, ◌+◌, ◌<◌, ◌≤◌, List, length, get_or, drop, Some, None, ap, ◌∙◌}
use Rattle.std.specs.Prelude.{option_and_then}
use Rattle.std.proofs.lemmas.List.{at_drop_more, at_drop_all}
use Rattle.logs.specs.Numbers.{number_on, with_digit}

next_digit : (radix n : ℕ) (ds : List ℕ) (i : ℕ) → i < length ds → number_on radix n (drop i ds) ≡ option_and_then (λ m. number_on radix m (drop (i + 1) ds)) (with_digit radix n (get_or ds i 0))
next_digit radix n ds i h = at_drop_more (number_on radix n) ds i 0 h

pub one_more : (radix n m : ℕ) (ds : List ℕ) (i : ℕ) → i < length ds → with_digit radix n (get_or ds i 0) ≡ Some m → number_on radix n (drop i ds) ≡ number_on radix m (drop (i + 1) ds)
one_more radix n m ds i h e = next_digit radix n ds i h ∙ ap (option_and_then (λ m. number_on radix m (drop (i + 1) ds))) e

pub stops_there : (radix n : ℕ) (ds : List ℕ) (i : ℕ) → i < length ds → with_digit radix n (get_or ds i 0) ≡ None → number_on radix n (drop i ds) ≡ None
stops_there radix n ds i h e = next_digit radix n ds i h ∙ ap (option_and_then (λ m. number_on radix m (drop (i + 1) ds))) e

pub at_the_end : (radix n : ℕ) (ds : List ℕ) (i : ℕ) → length ds ≤ i → number_on radix n (drop i ds) ≡ Some n
at_the_end radix n ds i h = at_drop_all (number_on radix n) ds i h

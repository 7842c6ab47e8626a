-- The first strange line of those that are left. Assumes nothing.
use Rattle.std.proofs.Common.{◌≡◌, ℕ, ◌+◌, ◌<◌, ◌≤◌, true, false, cond, List, length, get_or, map, drop, Bor, ap, ◌∙◌}
use Rattle.std.proofs.lemmas.List.{at_drop_more, at_drop_all}
use Rattle.logs.specs.Reading.{log_of}
use Rattle.assembling.specs.Assembly.{strange, strange_line}

-- the first, of the lines that are left from the i-th on
abbrev pub from : ℕ → List (Bor (List ℕ)) → ℕ → ℕ
from n lines i = strange_line n (map (λ x. x.now) (drop i lines))

module _ (n : ℕ) (lines : List (Bor (List ℕ))) (i : ℕ) (d : Bor (List ℕ)) (some : i < length lines) where
  next_line : from n lines i ≡ cond (strange (log_of (get_or lines i d).now)) n (from (n + 1) lines (i + 1))
  unfolding strange_line
  next_line = at_drop_more (λ l. strange_line n (map (λ x. x.now) l)) lines i d some

  pub goes_on : strange (log_of (get_or lines i d).now) ≡ false → from n lines i ≡ from (n + 1) lines (i + 1)
  goes_on is = next_line ∙ ap (λ b. cond b n (from (n + 1) lines (i + 1))) is

  pub is_there : strange (log_of (get_or lines i d).now) ≡ true → from n lines i ≡ n
  is_there is = next_line ∙ ap (λ b. cond b n (from (n + 1) lines (i + 1))) is

pub none_left : (n : ℕ) (lines : List (Bor (List ℕ))) (i : ℕ) → length lines ≤ i → from n lines i ≡ n
unfolding strange_line
none_left n lines i h = at_drop_all (λ l. strange_line n (map (λ x. x.now) l)) lines i h

-- The first place that passes. Assumes nothing.
use Rattle.std.proofs.Common.{◌≡◌, ℕ, ◌≤◌, Bool, true, false, cond, List, length, Some, None, IfSome, nat_lt, arith}
use Rattle.std.specs.Prelude.{unwrap_or}
use Rattle.std.specs.List.{position, position_or_len}
use Rattle.std.proofs.lemmas.List.Sums.{prefix_len-le-length}

place_or_len : (n k : ℕ) → k ≤ n → unwrap_or (cond (nat_lt k n) (Some k) None) n ≡ k
place_or_len n k h = grind arith

-- the place, or the length where there is none
pub first_place : (p : ℕ → Bool) (xs : List ℕ) → unwrap_or (position p xs) (length xs) ≡ position_or_len p xs
first_place p xs = place_or_len (length xs) (position_or_len p xs) (prefix_len-le-length _ xs)

place_at : (n k : ℕ) → k ≤ n → IfSome (cond (nat_lt k n) (Some k) None) (λ i. i ≤ n)
place_at n k h = elim (nat_lt k n) as (λ b. IfSome (cond b (Some k) None) (λ i. i ≤ n)) [ true ↦ h | false ↦ tt ]

pub place_within : (p : ℕ → Bool) (xs : List ℕ) → IfSome (position p xs) (λ i. i ≤ length xs)
place_within p xs = place_at (length xs) (position_or_len p xs) (prefix_len-le-length _ xs)

-- How many lists of different records there are: more of more records.
use Rattle.std.proofs.Common.{◌≡◌, ℕ, zero, suc, ◌+◌, ◌*◌, ◌-◌, ◌<◌, ◌≤◌, sym, ap, ◌∙◌, arith}
use Rattle.std.proofs.Math.Nat.{mul-le-mul_left}
use Rattle.search.specs.Steps.{F}

pub F_next : (n : ℕ) → F n ≤ F (suc n)
F_next n = let le : F n * 1 ≤ F n * suc n = mul-le-mul_left (F n) (omega arith) in omega (arith, le)

-- from n on, k records more
pub F_on : (n k : ℕ) → F n ≤ F (k + n)
F_on n zero = let e : 0 + n ≡ n = omega arith in let is : F (0 + n) ≡ F n = ap F e in omega (arith, is)
F_on n (suc k) = let next : F (k + n) ≤ F (suc (k + n)) = F_next (k + n) in
    let e : suc k + n ≡ suc (k + n) = omega arith in
    let is : F (suc k + n) ≡ F (suc (k + n)) = ap F e in omega (arith, F_on n k, next, is)

pub F_more : (n m : ℕ) → n ≤ m → F n ≤ F m
F_more n m le = let e : (m - n) + n ≡ m = omega arith in let is : F ((m - n) + n) ≡ F m = ap F e in omega (arith, F_on n (m - n), is)

-- where the next does not fit, neither do the later ones
pub beyond : (n m lists limit : ℕ) → n < m → lists ≡ F n → limit ≤ lists * (n + 1) + 1 → limit ≤ F m
beyond n m lists limit lt is le =
    let next : F (suc n) ≡ lists * (n + 1) + 1 = let e : 1 + suc n * lists ≡ lists * (n + 1) + 1 = grind arith in ap (λ l. 1 + suc n * l) (sym is) ∙ e in
    omega (arith, F_more (suc n) m (omega arith), next)

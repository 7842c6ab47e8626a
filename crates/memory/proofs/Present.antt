-- Every record stands in a legal order: n different numbers of 1 to n are all of them. Assumes nothing.
use Rattle.std.proofs.Common.{◌≡◌, ℕ, zero, suc, ◌+◌, ◌<◌, ◌≤◌, Bool, true, false, cond, not, eqb, List, [], ◌∷◌, length, get_or, sym, refl, ap, subst, ⊎_elim, zero-le, arith}
use Rattle.std.proofs.lemmas.Bool.{eq-eqb, eqb-true, or_parts, or_cases, or_left, not-true, not_from_true, not_from_false, cases_Bool, cases_eq, both_ways, true≢false}
use Rattle.memory.specs.Runs.{Run, Known, has}
use Rattle.memory.specs.Legal.{Legal}

pub has_index : (xs : List ℕ) (a : ℕ) → has xs a ≡ true → (j : ℕ) × (j < length xs) × (get_or xs j 0 ≡ a)
has_index [] a h = absurd (both_ways false refl h)
has_index (x ∷ xs) a h = ⊎_elim (λ e. (0, omega arith, eqb-true x a e)) (λ e. let r = has_index xs a e in (suc r.0, omega (arith, r.1), r.2)) (or_cases (eqb x a) (has xs a) h)

-- how many of 1 to n pass
abbrev pub count : (ℕ → Bool) → ℕ → ℕ
count p zero = 0
count p (suc n) = cond (p (suc n)) 1 0 + count p n

bit_le : (b c : Bool) → (b ≡ true → c ≡ true) → cond {A = ℕ} b 1 0 ≤ cond c 1 0
bit_le true true h = omega arith
bit_le true false h = absurd (true≢false (sym (h refl)))
bit_le false c h = zero-le

pub count_le : (p q : ℕ → Bool) (n : ℕ) → ((k : ℕ) → q k ≡ true → p k ≡ true) → count q n ≤ count p n
count_le p q zero h = omega arith
count_le p q (suc n) h = omega (arith, bit_le (q (suc n)) (p (suc n)) (h (suc n)), count_le p q n h)

-- fewer pass q than p where x passes p alone
pub count_less : (p q : ℕ → Bool) (x n : ℕ) → ((k : ℕ) → q k ≡ true → p k ≡ true) → 0 < x → x ≤ n → p x ≡ true → q x ≡ false → count q n + 1 ≤ count p n
count_less p q x zero h some under yes' no' = omega arith
count_less p q x (suc n) h some under yes' no' =
    ⊎_elim
    (λ e.
    let here : cond {A = ℕ} (p (suc n)) 1 0 ≡ 1 = ap (λ b. cond b 1 0) (subst (λ k. p k ≡ true) e yes') in
    let there : cond {A = ℕ} (q (suc n)) 1 0 ≡ 0 = ap (λ b. cond b 1 0) (subst (λ k. q k ≡ false) e no') in
    omega (arith, count_le p q n h))
    (λ e. omega (arith, bit_le (q (suc n)) (p (suc n)) (h (suc n)), count_less p q x n h some (omega arith) yes' no'))
    (cases_eq x (suc n))

-- how many of 1 to n are not among xs
abbrev pub left : ℕ → List ℕ → ℕ
left n xs = count (λ k. not (has xs k)) n

pub left_all : (n : ℕ) → left n [] ≡ n
left_all zero = refl
left_all (suc n) = omega (arith, left_all n)

pub left_less : (n : ℕ) (xs : List ℕ) (x : ℕ) → 0 < x → x ≤ n → has xs x ≡ false → left n (x ∷ xs) + 1 ≤ left n xs
left_less n xs x some under new =
    count_less (λ k. not (has xs k)) (λ k. not (has (x ∷ xs) k)) x n
    (λ k f. not_from_false (has xs k) (or_parts (eqb x k) (has xs k) (not-true (has (x ∷ xs) k) f)).1)
    some under (not_from_false (has xs x) new) (not_from_true (has (x ∷ xs) x) (or_left (eqb x x) (has xs x) (eq-eqb x x refl)))

-- records of the run, no two the same
abbrev pub Distinct : Run → List ℕ → Type 0
Distinct R [] = Unit {0}
Distinct R (x ∷ xs) = Known R x × (has xs x ≡ false) × Distinct R xs

pub left_length : (R : Run) (xs : List ℕ) → Distinct R xs → left R.size xs + length xs ≤ R.size
left_length R [] d = omega (arith, left_all R.size)
left_length R (x ∷ xs) d = omega (arith, left_less R.size xs x d.0.some d.0.within d.1, left_length R xs d.2)

pub all_come : (R : Run) (xs : List ℕ) → Distinct R xs → length xs ≡ R.size → (a : ℕ) → Known R a → has xs a ≡ true
all_come R xs d e a k =
    ⊎_elim (λ c. c)
    (λ c. absurd (omega (arith, left_less R.size xs a k.some k.within c, left_length R xs d)))
    (cases_Bool (has xs a))

pub distinct :
    (R : Run) (xs : List ℕ) → ((i : ℕ) → i < length xs → Known R (get_or xs i 0)) →
    ((i j : ℕ) → i < length xs → j < length xs → get_or xs i 0 ≡ get_or xs j 0 → i ≡ j) → Distinct R xs
distinct R [] known once = tt
distinct R (x ∷ xs) known once = (
  known 0 (omega arith),
  ⊎_elim (λ h. let r = has_index xs x h in absurd (omega (arith, once 0 (suc r.0) (omega arith) (omega (arith, r.1)) (sym r.2)))) (λ h. h) (cases_Bool (has xs x)),
  distinct R xs (λ i lt. known (suc i) (omega arith)) (λ i j li lj e. omega (arith, once (suc i) (suc j) (omega arith) (omega arith) e)),
)

-- each record stands at some place of a legal order
pub present : (R : Run) (order : List ℕ) → Legal R order → (a : ℕ) → Known R a → (i : ℕ) × (i < length order) × (get_or order i 0 ≡ a)
present R order h a k = has_index order a (all_come R order (distinct R order h.known h.once) h.long a k)

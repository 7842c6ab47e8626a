-- The first of 1 to n that gives something, and one that passes. Assumes nothing.
use Rattle.std.proofs.Common.{◌≡◌, ℕ, zero, suc, ◌<◌, ◌≤◌, Bool, true, false, Some, None, Option, refl, ap, ◌∙◌, subst, ⊎_elim, arith}
use Rattle.std.proofs.lemmas.Bool.{or_cases, or_left, or_right, both_ways, cases_eq, cases_lt}
use Rattle.inference.specs.Next.{or_else, seek}
use Rattle.inference.specs.Rules.{some}

-- what `seek` gives
abbrev pub Sought : {X : Type 0} → (ℕ → Option X) → ℕ → Option X → Type 0
Sought f n None = (k : ℕ) → 0 < k → k ≤ n → f k ≡ None
Sought f n (Some x) = (k : ℕ) × (0 < k) × (k ≤ n) × (f k ≡ Some x) × ((j : ℕ) → 0 < j → j < k → f j ≡ None)

pub sought : {X : Type 0} (f : ℕ → Option X) (n : ℕ) → Sought f n (seek f n)
sought f zero = λ k some le. absurd (omega arith)
sought {X} f (suc n) = go (seek f n) (sought f n) (f (suc n)) refl
  where
    go : (o : Option X) → Sought f n o → (p : Option X) → f (suc n) ≡ p → Sought f (suc n) (or_else o p)
    go None none None e = λ k some le. ⊎_elim (λ q. ap f q ∙ e) (λ q. none k some (omega arith)) (cases_eq k (suc n))
    go None none (Some x) e = (suc n, omega arith, omega arith, e, λ j some lt. none j some (omega arith))
    go (Some x) (k, some, within, here, first) p e = (k, some, omega arith, here, first)

pub seek_none : {X : Type 0} (f : ℕ → Option X) (n : ℕ) → ((k : ℕ) → 0 < k → f k ≡ None) → seek f n ≡ None
seek_none f zero h = refl
seek_none f (suc n) h = ap (λ o. or_else o (f (suc n))) (seek_none f n h) ∙ h (suc n) (omega arith)

-- one that passes
pub some_at : (p : ℕ → Bool) (n : ℕ) → some p n ≡ true → (k : ℕ) × (0 < k) × (k ≤ n) × (p k ≡ true)
some_at p zero e = absurd (both_ways false refl e)
some_at p (suc n) e = ⊎_elim (λ q. (suc n, omega arith, omega arith, q)) (λ q. let r = some_at p n q in (r.0, r.1, omega (arith, r.2), r.3)) (or_cases (p (suc n)) (some p n) e)

pub some_from : (p : ℕ → Bool) (n k : ℕ) → 0 < k → k ≤ n → p k ≡ true → some p n ≡ true
some_from p zero k more under e = absurd (omega arith)
some_from p (suc n) k more under e =
    ⊎_elim (λ q. or_left (p (suc n)) (some p n) (subst (λ j. p j ≡ true) q e)) (λ q. or_right (p (suc n)) (some p n) (some_from p n k more (omega arith) e)) (cases_eq k (suc n))

pub none_some : {X : Type 0} (o : Option X) (x : X) → o ≡ None → o ≡ Some x → ⊥
none_some o x p q = cc (p, q)

-- what is sought is there once
pub sought_once : {X : Type 0} (f : ℕ → Option X) (n : ℕ) (r : Option X) → Sought f n r → r ≡ seek f n
sought_once {X} f n r s = go r (seek f n) s (sought f n)
  where
    go : (a b : Option X) → Sought f n a → Sought f n b → a ≡ b
    go None None a b = refl
    go None (Some y) a b = absurd (none_some _ y (a b.0 b.1 b.2) b.3)
    go (Some x) None a b = absurd (none_some _ x (b a.0 a.1 a.2) a.3)
    go (Some x) (Some y) a b =
        ⊎_elim (λ lt. absurd (none_some _ x (b.4 a.0 a.1 lt) a.3))
        (λ ge. ⊎_elim (λ gt. absurd (none_some _ y (a.4 b.0 b.1 gt) b.3)) (λ le. let same : a.0 ≡ b.0 = omega arith in cc (same, a.3, b.3)) (cases_lt b.0 a.0))
        (cases_lt a.0 b.0)

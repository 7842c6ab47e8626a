-- The least number that passes. Assumes nothing.
use Rattle.std.proofs.Common.{◌≡◌, ℕ, zero, suc, Bool, true, false, cond, Some, None, Option, refl, ap, ◌∙◌, ⊎_elim, arith}
use Rattle.std.proofs.lemmas.Bool.{cases_eq, cases_lt, both_ways}
use Rattle.memory.specs.Reading.{first_of, pick, numbered, Least}

-- what `pick` gives is the least
abbrev Picked : (ℕ → Bool) → ℕ → ℕ → Type 0
Picked p n r = Least p n (numbered r)

picked_on : (p : ℕ → Bool) (n r : ℕ) (b : Bool) → Picked p n r → p (suc n) ≡ b → Picked p (suc n) (first_of r (cond b (suc n) 0))
picked_on p n zero true none e = (omega arith, omega arith, e, λ k some lt. none k some (omega arith))
picked_on p n zero false none e = λ k some le. ⊎_elim (λ q. ap p q ∙ e) (λ q. none k some (omega arith)) (cases_eq k (suc n))
picked_on p n (suc r) b (some, within, passes, least) e = (some, omega arith, passes, least)

-- two least are one
pub least_once : (p : ℕ → Bool) (n : ℕ) (a b : Option ℕ) → Least p n a → Least p n b → a ≡ b
least_once p n None None x y = refl
least_once p n None (Some b) x y = absurd (both_ways _ (x b y.0 y.1) y.2)
least_once p n (Some a) None x y = absurd (both_ways _ (y a x.0 x.1) x.2)
least_once p n (Some a) (Some b) x y =
    ⊎_elim (λ lt. absurd (both_ways _ (y.3 a x.0 lt) x.2))
    (λ ge. ⊎_elim (λ gt. absurd (both_ways _ (x.3 b y.0 gt) y.2)) (λ le. ap Some (omega arith)) (cases_lt b a))
    (cases_lt a b)

pub picked : (p : ℕ → Bool) (n : ℕ) → Least p n (numbered (pick p n))
picked p zero = λ k some le. absurd (omega arith)
picked p (suc n) = picked_on p n (pick p n) (p (suc n)) (picked p n) refl

-- What the tests of a line that follows say. Assumes nothing.
use Rattle.std.proofs.Common.{◌≡◌, ℕ, zero, suc, ◌≤◌, Bool, true, false, not, ◌&&◌, eqb, ltb, leb, List, refl, arith}
use Rattle.std.proofs.lemmas.Bool.{and_parts, and_from, not-true, eqb-true, eqb-false, ltb-true, leb-true, lt-ltb, le-leb}
use Rattle.memory.specs.declared.lines.Line.{Line}
use Rattle.memory.specs.Runs.{Run, Known}
use Rattle.inference.specs.Rules.{known, some, names_third, third_fits, by_rule, follows}

module _ (R : Run) (a : ℕ) where
  pub known_is : known R a ≡ true → Known R a
  known_is e = let p = and_parts (ltb 0 a) (leb a R.size) e in record { some = ltb-true 0 a p.0; within = leb-true a R.size p.1 }

  pub is_known : Known R a → known R a ≡ true
  is_known k = and_from (ltb 0 a) (leb a R.size) (lt-ltb 0 a k.some) (le-leb a R.size k.within)

-- a line that follows, by the parts of the test
pub record Following (R : Run) (ls : List Line) (l : Line) : Type 0 where
  pub first : Known R l.first
  pub second : Known R l.second
  pub apart : l.first ≡ l.second → ⊥
  pub third : third_fits R (names_third l.rule) l.third ≡ true
  pub given : by_rule R ls l.rule l.first l.second l.third ≡ true

pub following : (R : Run) (ls : List Line) (l : Line) → follows R ls l ≡ true → Following R ls l
following R ls l e =
    let p = and_parts (known R l.first) _ e in
    let q = and_parts (known R l.second) _ p.1 in
    let r = and_parts (not (eqb l.first l.second)) _ q.1 in
    let t = and_parts (third_fits R (names_third l.rule) l.third) _ r.1 in
    record { first = known_is R _ p.0; second = known_is R _ q.0; apart = eqb-false _ _ (not-true _ r.0); third = t.0; given = t.1 }

pub third_within : (R : Run) (b : Bool) (c : ℕ) → third_fits R b c ≡ true → c ≤ R.size
third_within R true c e = (known_is R c e).within
third_within R false c e = omega (arith, eqb-true c 0 e)

-- of the records, those that pass
pub some_known : (R : Run) (p : ℕ → Bool) → some (λ k. known R k && p k) R.size ≡ some p R.size
some_known R p = go R.size (omega arith)
  where
    go : (n : ℕ) → n ≤ R.size → some (λ k. known R k && p k) n ≡ some p n
    go zero le = refl
    go (suc n) le = let e : known R (suc n) ≡ true = is_known R (suc n) (record { some = omega arith; within = le }) in cc (e, go n (omega arith))

-- A run with an orphan has no legal order, and the empty order of the empty run is legal. Assumes nothing.
use Rattle.std.proofs.Common.{◌≡◌, ℕ, ◌-◌, ◌<◌, ◌≤◌, Bool, true, false, cond, not, eqb, ◌⊎◌, List, [], ◌∷◌, length, get_or, take, fold, sym, refl, ap, ◌∙◌, subst, inl, inr, ⊎_elim, arith}
use Rattle.std.specs.List.{AllByRecursion as All}
use Rattle.std.proofs.ByRecursion.{All-take}
use Rattle.std.proofs.lemmas.Bool.{and_parts, and_from, eq-eqb, not-true, both_ways, eqb-false}
use Rattle.memory.specs.declared.records.Record.{Record}
use Rattle.memory.specs.Kinds.{is_load, is_store}
use Rattle.std.specs.List.{list_any}
use Rattle.memory.specs.Runs.{Setting, Run, Known, run_of, blank, at}
use Rattle.memory.specs.Legal.{writes, memory, Legal, NoOrder}
use Rattle.memory.specs.Reading.{reads_from, orphan}
use Rattle.std.proofs.lemmas.List.Folds.{list_any_at}
use Rattle.memory.proofs.Present.{Distinct, distinct, present}

-- the records of xs, in their order, leave v at the address, or one of them has written what it holds
pub record Source (R : Run) (a held w : ℕ) : Type 0 where
  pub known : Known R w
  pub to_it : writes R w a ≡ true
  pub value : R.value w ≡ held

source : (R : Run) (a v : ℕ) (xs : List ℕ) → All (Known R) xs →
    let held = fold (λ v x. cond (writes R x a) (R.value x) v) v xs in (held ≡ v) ⊎ ((w : ℕ) × Source R a held w)
source R a v [] k = inl refl
source R a v (x ∷ xs) k = go (writes R x a) refl (source R a (cond (writes R x a) (R.value x) v) xs k.1)
  where
    go : (b : Bool) → writes R x a ≡ b → (fold (λ v x. cond (writes R x a) (R.value x) v) (cond b (R.value x) v) xs ≡ cond b (R.value x) v) ⊎ ((w : ℕ) × Source R a (fold (λ v x. cond (writes R x a) (R.value x) v) (cond b (R.value x) v) xs) w) →
        (fold (λ v x. cond (writes R x a) (R.value x) v) (cond b (R.value x) v) xs ≡ v) ⊎ ((w : ℕ) × Source R a (fold (λ v x. cond (writes R x a) (R.value x) v) (cond b (R.value x) v) xs) w)
    go true is (inl e) = inr (x, record { known = k.0; to_it = is; value = sym e })
    go false is (inl e) = inl e
    go b is (inr s) = inr s

all_known : (R : Run) (xs : List ℕ) → Distinct R xs → All (Known R) xs
all_known R [] d = tt
all_known R (x ∷ xs) d = (d.0, all_known R xs d.2)

-- a load that reads no store of the run has a value that no legal order gives it
pub orphan_none : (S : Setting) (rs : List Record) (l : ℕ) → 0 < l → l ≤ length rs → orphan rs l ≡ true → NoOrder (run_of S rs)
orphan_none S rs l some within e order h =
    let R = run_of S rs in
    let x = at rs l in
    let p = and_parts (is_load x.kind) _ e in
    let q = and_parts (not (eqb x.value 0)) _ p.1 in
    let unwritten : list_any (reads_from x) rs ≡ false = not-true _ q.1 in
    let here = present R order h l (record { some = some; within = within }) in
    let i : ℕ = here.0 in
    let is : get_or order i 0 ≡ l = here.2 in
    let read : R.value l ≡ memory R (take i order) (R.addr l) = subst (λ a. R.value a ≡ memory R (take i order) (R.addr a)) is (h.reads i here.1 (ap R.load is ∙ p.0)) in
    ⊎_elim
    (λ zero_is. eqb-false x.value 0 (not-true _ q.0) (read ∙ zero_is))
    (λ s. let w : ℕ = s.0 in
    let wrote = and_parts (R.store w) (eqb (R.addr w) (R.addr l)) s.1.to_it in
    let reads : reads_from x (at rs w) ≡ true =
    and_from (is_load x.kind) _ p.0 (and_from (not (eqb x.value 0)) _ q.0 (and_from (is_store (at rs w).kind) _ wrote.0 (and_from (eqb (at rs w).address x.address) _ wrote.1 (eq-eqb _ _ (s.1.value ∙ sym read)))))
    in
    both_ways _ unwritten (list_any_at (reads_from x) rs (w - 1) blank (omega (arith, s.1.known.some, s.1.known.within)) reads))
    (source R (R.addr l) 0 (take i order) (All-take (Known R) i order (all_known R order (distinct R order h.known h.once))))

-- the empty order is a legal order of no records
pub empty_legal : (S : Setting) → Legal (run_of S []) []
empty_legal S = record {
  long = refl;
  known = λ i lt. absurd (omega arith);
  once = λ i j li lj e. absurd (omega arith);
  model = λ i j li lj m. absurd (omega arith);
  clock = λ i j li lj m. absurd (omega arith);
  reads = λ i lt l. absurd (omega arith);
}

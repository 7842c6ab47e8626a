-- A legal order by places: what comes before what, and what each load reads. Assumes nothing.
use Rattle.std.proofs.Common.{◌≡◌, ℕ, zero, suc, ◌<◌, ◌≤◌, Bool, true, false, cond, eqb, ◌⊎◌, List, [], ◌∷◌, length, get_or, take, sym, refl, ap, ◌∙◌, subst, inl, inr, ⊎_elim, add-one, arith}
use Rattle.std.proofs.lemmas.List.Sums.{fold_more}
use Rattle.std.proofs.lemmas.Bool.{eq-eqb, ne_eqb, cond-true, cond-false, cases_Bool, cases_eq, cases_lt, both_ways}
use Rattle.memory.specs.Runs.{Run, Known}
use Rattle.memory.specs.Legal.{writes, memory, Legal}
use Rattle.memory.proofs.Present.{present}
use Rattle.inference.specs.Worth.{Before}

-- the place at which a first stands, or the length where it does not
abbrev pub place : List ℕ → ℕ → ℕ
place [] a = 0
place (x ∷ xs) a = cond (eqb x a) 0 (suc (place xs a))

module _ (xs : List ℕ) (x a : ℕ) where
  at_head : (i : ℕ) → x ≡ a → (place (x ∷ xs) a ≤ i) × (get_or (x ∷ xs) (place (x ∷ xs) a) 0 ≡ a)
  at_head i q = let e = cond-true (eqb x a) 0 (suc (place xs a)) (eq-eqb x a q) in (omega arith, ap (λ k. get_or (x ∷ xs) k 0) e ∙ q)

  past_head : (i : ℕ) → (x ≡ a → ⊥) → (place xs a ≤ i) × (get_or xs (place xs a) 0 ≡ a) → (place (x ∷ xs) a ≤ suc i) × (get_or (x ∷ xs) (place (x ∷ xs) a) 0 ≡ a)
  past_head i q (le, is) = let e = cond-false (eqb x a) 0 (suc (place xs a)) (ne_eqb x a q) in (omega arith, ap (λ k. get_or (x ∷ xs) k 0) e ∙ is)

-- what stands at i stands at its place, and that is no later
place_first : (xs : List ℕ) (a i : ℕ) → i < length xs → get_or xs i 0 ≡ a → (place xs a ≤ i) × (get_or xs (place xs a) 0 ≡ a)
place_first [] a i lt e = absurd (omega arith)
place_first (x ∷ xs) a zero lt e = at_head xs x a 0 e
place_first (x ∷ xs) a (suc i) lt e = ⊎_elim (at_head xs x a (suc i)) (λ q. past_head xs x a i q (place_first xs a i (omega arith) e)) (cases_eq x a)

-- the load l has 0, and no store to its address comes before it
pub record Fresh (R : Run) (pos : ℕ → ℕ) (l : ℕ) : Type 0 where
  pub initial : R.value l ≡ 0
  pub none_yet : (w : ℕ) → Known R w → writes R w (R.addr l) ≡ true → pos l ≤ pos w

-- the load l has the value of w, the last store to its address before it
pub record From (R : Run) (pos : ℕ → ℕ) (l w : ℕ) : Type 0 where
  pub known : Known R w
  pub to_it : writes R w (R.addr l) ≡ true
  pub same : R.value w ≡ R.value l
  pub before : pos w < pos l
  pub last : (v : ℕ) → Known R v → writes R v (R.addr l) ≡ true → pos v < pos l → pos v ≤ pos w

-- the places of the records are those of a legal order
pub record Ordered (R : Run) (pos : ℕ → ℕ) : Type 0 where
  pub apart : (a b : ℕ) → Known R a → Known R b → pos a ≡ pos b → a ≡ b
  pub model : (a b : ℕ) → Known R a → Known R b → R.model a b ≡ true → pos a < pos b
  pub clock : (a b : ℕ) → Known R a → Known R b → R.clock a b ≡ true → pos a < pos b
  pub reads : (l : ℕ) → Known R l → R.load l ≡ true → Fresh R pos l ⊎ ((w : ℕ) × From R pos l w)

-- what address a holds after the first i records: 0 where none of them writes to it, or the value of the last that does
module _ (R : Run) (order : List ℕ) (a : ℕ) where
  record Unwritten (i : ℕ) : Type 0 where
    initial : memory R (take i order) a ≡ 0
    none_yet : (k : ℕ) → k < i → writes R (get_or order k 0) a ≡ false

  record Written (i j : ℕ) : Type 0 where
    below : j < i
    to_it : writes R (get_or order j 0) a ≡ true
    same : R.value (get_or order j 0) ≡ memory R (take i order) a
    last : (k : ℕ) → k < i → j < k → writes R (get_or order k 0) a ≡ false

  held : (i : ℕ) → i ≤ length order → Unwritten i ⊎ ((j : ℕ) × Written i j)
  held zero le = inl (record { initial = refl; none_yet = λ k lt. absurd (omega arith) })
  held (suc i) le = go (cases_Bool (writes R x a)) (held i (omega arith))
    where
      x : ℕ
      x = get_or order i 0

      step : memory R (take (suc i) order) a ≡ cond (writes R x a) (R.value x) (memory R (take i order) a)
      step = ap (λ k. memory R (take k order) a) (sym (add-one i)) ∙ fold_more (λ v y. cond (writes R y a) (R.value y) v) 0 order i 0 (omega arith)

      still : writes R x a ≡ false → memory R (take (suc i) order) a ≡ memory R (take i order) a
      still f = step ∙ cond-false (writes R x a) (R.value x) (memory R (take i order) a) f

      -- the record x writes to a no more than those before it
      none_on : writes R x a ≡ false → (k : ℕ) → k < suc i → (k < i → writes R (get_or order k 0) a ≡ false) → writes R (get_or order k 0) a ≡ false
      none_on f k lt before = ⊎_elim (λ e. ap (λ n. writes R (get_or order n 0) a) e ∙ f) (λ e. before (omega arith)) (cases_eq k i)

      go : (writes R x a ≡ true) ⊎ (writes R x a ≡ false) → Unwritten i ⊎ ((j : ℕ) × Written i j) → Unwritten (suc i) ⊎ ((j : ℕ) × Written (suc i) j)
      go (inl f) _ = inr (i, record { below = omega arith; to_it = f; same = sym (step ∙ cond-true (writes R x a) (R.value x) (memory R (take i order) a) f); last = λ k lt more. absurd (omega arith) })
      go (inr f) (inl u) = inl (record { initial = still f ∙ u.initial; none_yet = λ k lt. none_on f k lt (u.none_yet k) })
      go (inr f) (inr (j, w)) =
          inr (j, record { below = omega (arith, w.below); to_it = w.to_it; same = w.same ∙ sym (still f); last = λ k lt more. none_on f k lt (λ below. w.last k below more) })

module _ (R : Run) (order : List ℕ) (h : Legal R order) where
  stands : (a : ℕ) → Known R a → (place order a < length order) × (get_or order (place order a) 0 ≡ a)
  stands a k =
      let p = present R order h a k in
      let q = place_first order a p.0 p.1 p.2 in
      (omega (arith, p.1, q.0), q.1)

  place_at : (i : ℕ) → i < length order → place order (get_or order i 0) ≡ i
  place_at i lt = let q = place_first order (get_or order i 0) i lt refl in h.once (place order (get_or order i 0)) i (omega (arith, q.0)) lt q.1

  pub before : (a b : ℕ) → Known R a → Known R b → place order a < place order b → Before order a b
  before a b ka kb lt = (place order a, place order b, lt, (stands b kb).0, (stands a ka).1, (stands b kb).1)

  -- what holds of the record at the place of a holds of a
  at_place : (P : ℕ → Type 0) (a : ℕ) → Known R a → P (get_or order (place order a) 0) → P a
  at_place P a k p = subst P (stands a k).1 p

  -- a relation that the order keeps
  kept : (T : ℕ → ℕ → Bool) → ((i j : ℕ) → i < length order → j < length order → T (get_or order i 0) (get_or order j 0) ≡ true → i < j) → (a b : ℕ) → Known R a → Known R b → T a b ≡ true → place order a < place order b
  kept T keeps a b ka kb t =
      let p = stands a ka in
      let q = stands b kb in
      keeps (place order a) (place order b) p.0 q.0 (cc (p.1, q.1, t))

  read : (l : ℕ) → Known R l → R.load l ≡ true → Fresh R (place order) l ⊎ ((w : ℕ) × From R (place order) l w)
  read l k load = ⊎_elim (λ u. inl (fresh u)) (λ w. inr (get_or order w.0 0, from w.0 w.1)) (held R order (R.addr l) (place order l) (omega (arith, (stands l k).0)))
    where
      i : ℕ
      i = place order l

      is : R.value l ≡ memory R (take i order) (R.addr l)
      is = at_place (λ x. R.load x ≡ true → R.value x ≡ memory R (take i order) (R.addr x)) l k (h.reads i (stands l k).0) load

      -- a store to the address stands where no record writes to it
      clash : (v : ℕ) → Known R v → writes R v (R.addr l) ≡ true → writes R (get_or order (place order v) 0) (R.addr l) ≡ false → ⊥
      clash v kv yes' no' = both_ways _ (at_place (λ x. writes R x (R.addr l) ≡ false) v kv no') yes'

      fresh : Unwritten R order (R.addr l) i → Fresh R (place order) l
      fresh u = record {
        initial = is ∙ u.initial;
        none_yet = λ w kw ww. ⊎_elim (λ lt. absurd (clash w kw ww (u.none_yet (place order w) lt))) (λ ge. ge) (cases_lt (place order w) i);
      }

      from : (j : ℕ) → Written R order (R.addr l) i j → From R (place order) l (get_or order j 0)
      from j w =
          let within : j < length order = omega (arith, w.below, (stands l k).0) in
          record {
            known = h.known j within;
            to_it = w.to_it;
            same = w.same ∙ sym is;
            before = omega (arith, place_at j within, w.below);
            last = λ v kv wv lt. ⊎_elim (λ more. absurd (clash v kv wv (w.last (place order v) lt more))) (λ le. omega (arith, place_at j within)) (cases_lt j (place order v));
          }

  pub ordered : Ordered R (place order)
  ordered = record {
    apart = λ a b ka kb e. sym (stands a ka).1 ∙ ap (λ i. get_or order i 0) e ∙ (stands b kb).1;
    model = kept R.model h.model;
    clock = kept R.clock h.clock;
    reads = read;
  }

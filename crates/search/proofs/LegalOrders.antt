-- An order is legal just where it has as many records as the run and each may follow those before it. Assumes nothing.
use Rattle.std.proofs.Common.{◌≡◌, ℕ, zero, suc, ◌+◌, ◌<◌, ◌≤◌, Bool, true, false, not, eqb, List, [], ◌∷◌, ◌++◌, length, get_or, take, refl, sym, ap, ◌∙◌, ⊎_elim, arith, take-suc}
use Rattle.std.proofs.lemmas.List.{append_assoc, append-nil}
use Rattle.std.proofs.lemmas.Bool.{and_parts, and_from, or_cases, eqb-true, eq-eqb, not-true, not_from_false, false_from_ne_true, both_ways, cases_eq}
use Rattle.std.specs.Prelude.{Decides}
use Rattle.std.proofs.lemmas.Bool.Decides.{Decides-at}
use Rattle.memory.specs.Legal.{Legal}
use Rattle.memory.specs.Runs.{Run, must_precede}
use Rattle.inference.specs.Rules.{known}
use Rattle.inference.proofs.Follows.{known_is, is_known}
use Rattle.search.specs.Orders.{may_follow, all_follow, legal_order}
use Rattle.search.specs.Placing.{Placeable, distinct}
use Rattle.search.proofs.Built.{IrreflexiveIn, built_legal, legal_placeable}
use Rattle.search.proofs.Distinct.{among_more, distinct_push}
use Rattle.search.proofs.Placing.{placeable_is, is_placeable}

module _ (R : Run) where
  -- what may follow may be placed, and need not come before itself
  may_follow_is : (front : List ℕ) (k : ℕ) → may_follow R front k ≡ true → Placeable R [] front k × (must_precede R k k ≡ false)
  may_follow_is front k e =
      let p = and_parts (known R k) _ e in
      let q = and_parts (not (must_precede R k k)) _ p.1 in
      (placeable_is R [] front k (known_is R k p.0) q.1, not-true _ q.0)

  is_may_follow : (front : List ℕ) (k : ℕ) → Placeable R [] front k → must_precede R k k ≡ false → may_follow R front k ≡ true
  is_may_follow front k p alone = and_from (known R k) _ (is_known R k p.known) (and_from (not (must_precede R k k)) _ (not_from_false _ alone) (is_placeable R [] front k p))

  -- each record of xs may follow those of front and those before it, place by place
  abbrev Onto : List ℕ → List ℕ → Type 0
  Onto front xs = (i : ℕ) → i < length xs → may_follow R (front ++ take i xs) (get_or xs i 0) ≡ true

  -- one record more stands in front
  moved : (front xs : List ℕ) (x i : ℕ) → may_follow R ((front ++ x ∷ []) ++ take i xs) (get_or xs i 0) ≡ may_follow R (front ++ x ∷ take i xs) (get_or xs i 0)
  moved front xs x i = ap (λ f. may_follow R f (get_or xs i 0)) (append_assoc front (x ∷ []) (take i xs))

  first : (front : List ℕ) (x : ℕ) → may_follow R (front ++ []) x ≡ may_follow R front x
  first front x = ap (λ f. may_follow R f x) (append-nil front)

  all_follow_is : (front xs : List ℕ) → all_follow R front xs ≡ true → Onto front xs
  all_follow_is front [] e i lt = absurd (omega arith)
  all_follow_is front (x ∷ xs) e zero lt = first front x ∙ (and_parts (may_follow R front x) _ e).0
  all_follow_is front (x ∷ xs) e (suc i) lt = sym (moved front xs x i) ∙ all_follow_is (front ++ x ∷ []) xs (and_parts (may_follow R front x) _ e).1 i (omega arith)

  is_all_follow : (front xs : List ℕ) → Onto front xs → all_follow R front xs ≡ true
  is_all_follow front [] h = refl
  is_all_follow front (x ∷ xs) h =
      and_from (may_follow R front x) _ (sym (first front x) ∙ h 0 (omega arith)) (is_all_follow (front ++ x ∷ []) xs (λ i lt. moved front xs x i ∙ h (suc i) (omega arith)))

module _ (R : Run) (order : List ℕ) where
  -- each of the first n records of the order may follow those before it
  abbrev pub Follow : ℕ → Type 0
  Follow n = (i : ℕ) → i < n → may_follow R (take i order) (get_or order i 0) ≡ true

  -- and so they are different ones
  pub follow_distinct : (m n : ℕ) → R.size ≤ m → n ≤ length order → Follow n → distinct m (take n order) ≡ true
  follow_distinct m zero few le h = refl
  follow_distinct m (suc n) few le h =
      let p = (may_follow_is R (take n order) (get_or order n 0) (h n (omega arith))).0 in
      let before : distinct m (take n order) ≡ true = follow_distinct m n few (omega arith) (λ i lt. h i (omega arith)) in
      ap (distinct m) (take-suc order n 0 (omega arith))
      ∙ distinct_push m (take n order) (get_or order n 0) (among_more R.size m _ few (is_known R _ p.known)) p.unplaced before

  -- one more that may follow
  pub follow_more : (n : ℕ) → Follow n → may_follow R (take n order) (get_or order n 0) ≡ true → Follow (n + 1)
  follow_more n h e i lt = ⊎_elim (λ q. ap (λ j. may_follow R (take j order) (get_or order j 0)) q ∙ e) (λ ne. h i (omega arith)) (cases_eq i n)

  -- with all of them the order passes, and where it passes all of them do
  follow_legal : length order ≡ R.size → Follow (length order) → legal_order R order ≡ true
  unfolding legal_order
  follow_legal long h = and_from (eqb (length order) R.size) _ (eq-eqb _ _ long) (is_all_follow R [] order h)

  legal_follow : legal_order R order ≡ true → (length order ≡ R.size) × Follow (length order)
  unfolding legal_order
  legal_follow e = let p = and_parts (eqb (length order) R.size) _ e in (eqb-true _ _ p.0, all_follow_is R [] order p.1)

  -- what passes is legal
  pub order_legal : legal_order R order ≡ true → Legal R order
  order_legal e =
      let (long, h) = legal_follow e in
      let each = λ (i : ℕ) (lt : i < length order). may_follow_is R (take i order) (get_or order i 0) (h i lt) in
      built_legal R order (λ i lt. (each i lt).0) (λ i lt. (each i lt).1) long

  -- a record that must come before itself would stand before itself in the order
  alone : Legal R order → IrreflexiveIn R order
  alone l i lt =
      let x : ℕ = get_or order i 0 in
      false_from_ne_true _ (λ m. absurd (omega (arith, ⊎_elim (l.model i i lt lt) (l.clock i i lt lt) (or_cases (R.model x x) _ m))))

  -- and what is legal passes
  pub legal_order_is : Legal R order → legal_order R order ≡ true
  legal_order_is l =
      follow_legal l.long
      (λ i lt. is_may_follow R (take i order) (get_or order i 0) (legal_placeable R [] order l (λ a b e. absurd (both_ways _ refl e)) i lt) (alone l i lt))

  -- so that the test decides
  pub legal_decided : Decides (legal_order R order) (Legal R order)
  legal_decided = (order_legal, legal_order_is)

  -- what a test of the order answers
  abbrev pub Tested : Bool → Type 0
  Tested b = record { value : b ≡ legal_order R order; legal : Decides b (Legal R order) }

  tested : (b : Bool) → b ≡ legal_order R order → Tested b
  tested b e = record { value = e; legal = Decides-at b (legal_order R order) e legal_decided }

  -- it fails by its length, or at one record; else it passes
  pub wrong_length : (length order ≡ R.size → ⊥) → Tested false
  wrong_length wrong = tested false (sym (false_from_ne_true _ (λ e. wrong (legal_follow e).0)))

  pub one_fails : (n : ℕ) → n < length order → may_follow R (take n order) (get_or order n 0) ≡ false → Tested false
  one_fails n lt no' = tested false (sym (false_from_ne_true _ (λ e. both_ways _ no' ((legal_follow e).1 n lt))))

  pub all_pass : (n : ℕ) → length order ≡ R.size → length order ≤ n → Follow n → Tested true
  all_pass n long le h = tested true (sym (follow_legal long (λ i lt. h i (omega arith))))

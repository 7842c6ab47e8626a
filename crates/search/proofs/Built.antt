-- Placed records, each placeable behind those before it: with all placed, a legal order. Assumes nothing.
use Rattle.std.proofs.Common.{◌≡◌, ℕ, ◌<◌, ◌≤◌, true, false, eqb, List, [], ◌∷◌, ◌++◌, length, get_or, take, sym, refl, ap, ◌∙◌, subst₂, ⊎_elim, arith, length-take-le, get_or-take, take_at}
use Rattle.std.proofs.lemmas.List.{get_or_append_left, get_or_push, take-append-le, length_push}
use Rattle.std.proofs.lemmas.List.Folds.{list_any_at}
use Rattle.std.proofs.lemmas.Bool.{or_cases, or_left, or_right, or_parts, or_from, eq-eqb, both_ways, cases_eq, cases_order, false_from_ne_true}
use Rattle.memory.specs.declared.lines.Line.{Line}
use Rattle.memory.specs.Legal.{Legal}
use Rattle.memory.specs.Runs.{Run, Known, has, must_precede}
use Rattle.memory.proofs.Present.{has_index, present}
use Rattle.inference.specs.Rules.{listed}
use Rattle.inference.specs.Worth.{Holds}
use Rattle.search.specs.Placing.{Placeable}

-- no record must come before itself
abbrev pub Irreflexive : Run → Type 0
Irreflexive R = (a : ℕ) → Known R a → must_precede R a a ≡ false

-- no record of the order must come before itself
abbrev pub IrreflexiveIn : Run → List ℕ → Type 0
IrreflexiveIn R order = (i : ℕ) → i < length order → must_precede R (get_or order i 0) (get_or order i 0) ≡ false

-- each record was placeable behind those before it, whatever lines were listed then
abbrev pub Built : Run → List ℕ → Type 0
Built R placed = (i : ℕ) → i < length placed → Placeable R [] (take i placed) (get_or placed i 0)

-- what may be placed with these lines may be placed with none
pub lineless : (R : Run) (ls : List Line) (placed : List ℕ) (k : ℕ) → Placeable R ls placed k → Placeable R [] placed k
lineless R ls placed k p = record {
  known = p.known;
  unplaced = p.unplaced;
  free = λ u known new other. or_from (must_precede R u k) false (or_parts (must_precede R u k) (listed ls u k) (p.free u known new other)).0 refl;
  value = p.value;
}

-- one record more, and one fewer
module _ (R : Run) (placed : List ℕ) (k : ℕ) where
  same_front : (i : ℕ) → i < length placed → take i (placed ++ k ∷ []) ≡ take i placed
  same_front i lt = take-append-le i placed (k ∷ []) (omega arith)

  same_record : (i : ℕ) → i < length placed → get_or (placed ++ k ∷ []) i 0 ≡ get_or placed i 0
  same_record i lt = get_or_append_left placed (k ∷ []) 0 i lt

  pub built_push : Built R placed → Placeable R [] placed k → Built R (placed ++ k ∷ [])
  built_push b p i lt = ⊎_elim (λ e. here (sym e)) (λ ne. there (omega (arith, length_push placed k))) (cases_eq i (length placed))
    where
      here : length placed ≡ i → Placeable R [] (take i (placed ++ k ∷ [])) (get_or (placed ++ k ∷ []) i 0)
      here e = subst₂ (Placeable R []) (sym (take_at placed (k ∷ []) i e)) (sym (get_or_push placed k 0 i e)) p

      there : i < length placed → Placeable R [] (take i (placed ++ k ∷ [])) (get_or (placed ++ k ∷ []) i 0)
      there below = subst₂ (Placeable R []) (sym (same_front i below)) (sym (same_record i below)) (b i below)

  pub built_front : Built R (placed ++ k ∷ []) → Built R placed
  built_front b i lt = subst₂ (Placeable R []) (same_front i lt) (same_record i lt) (b i (omega (arith, length_push placed k)))

-- what stands before place i is among the first i, and the other way round
module _ (xs : List ℕ) (i a : ℕ) (le : i ≤ length xs) where
  among_first : (j : ℕ) → j < i → get_or xs j 0 ≡ a → has (take i xs) a ≡ true
  among_first j lt e = list_any_at (λ x. eqb x a) (take i xs) j 0 (omega (arith, length-take-le i xs le)) (eq-eqb _ _ (get_or-take i xs j 0 lt ∙ e))

  from_first : has (take i xs) a ≡ true → (j : ℕ) × (j < i) × (get_or xs j 0 ≡ a)
  from_first h =
      let r = has_index (take i xs) a h in
      let lt : r.0 < i = omega (arith, r.1, length-take-le i xs le) in
      (r.0, lt, sym (get_or-take i xs r.0 0 lt) ∙ r.2)

-- in a legal order each record is placeable behind those before it, with any lines that hold in it
module _ (R : Run) (ls : List Line) (order : List ℕ) (h : Legal R order) (hold : Holds ls order) (i : ℕ) (lt : i < length order) where
  abbrev x : ℕ
  x = get_or order i 0

  unplaced : has (take i order) x ≡ true → ⊥
  unplaced c = let r = from_first order i x (omega arith) c in omega (arith, r.1, h.once r.0 i (omega (arith, r.1)) lt r.2)

  -- one that is not among the first i stands no earlier
  late : (u j : ℕ) → has (take i order) u ≡ false → get_or order j 0 ≡ u → j < i → ⊥
  late u j new is before = both_ways _ new (among_first order i u (omega arith) j before is)

  unforced : (u : ℕ) → Known R u → has (take i order) u ≡ false → must_precede R u x ≡ true → ⊥
  unforced u known new m =
      let p = present R order h u known in
      let m' : must_precede R (get_or order p.0 0) x ≡ true = ap (λ z. must_precede R z x) p.2 ∙ m in
      late u p.0 new p.2 (⊎_elim (h.model p.0 i p.1 lt) (h.clock p.0 i p.1 lt) (or_cases (R.model (get_or order p.0 0) x) _ m'))

  unlisted : (u : ℕ) → has (take i order) u ≡ false → listed ls u x ≡ true → ⊥
  unlisted u new l = let b = hold u x l in late u b.0 new b.4 (omega (arith, b.2, h.once b.1 i b.3 lt b.5))

  pub legal_placeable : Placeable R ls (take i order) (get_or order i 0)
  legal_placeable = record {
    known = h.known i lt;
    unplaced = false_from_ne_true _ unplaced;
    free = λ u known new other. or_from (must_precede R u x) (listed ls u x) (false_from_ne_true _ (unforced u known new)) (false_from_ne_true _ (unlisted u new));
    value = h.reads i lt;
  }

-- with all placed the order is legal
module _ (R : Run) (order : List ℕ) (b : Built R order) (irreflexive : IrreflexiveIn R order) where
  -- no record stands at two places
  apart : (i j : ℕ) → i < j → j < length order → get_or order i 0 ≡ get_or order j 0 → ⊥
  apart i j lt lj e = both_ways _ (b j lj).unplaced (among_first order j _ (omega arith) i lt e)

  once : (i j : ℕ) → i < length order → j < length order → get_or order i 0 ≡ get_or order j 0 → i ≡ j
  once i j li lj e = ⊎_elim (λ q. q) (⊎_elim (λ lt. absurd (apart i j lt lj e)) (λ gt. absurd (apart j i gt li (sym e)))) (cases_order i j)

  -- what stands later was not placed when the earlier was, and so need not come before it
  later : (i j : ℕ) → j < i → i < length order → must_precede R (get_or order i 0) (get_or order j 0) ≡ false
  later i j gt li =
      let x : ℕ = get_or order i 0 in
      let p = b j (omega arith) in
      let placed : has (take j order) x ≡ true → ⊥ = λ c. let r = from_first order j x (omega arith) c in apart r.0 i (omega (arith, r.1)) li r.2 in
      (or_parts (must_precede R x (get_or order j 0)) false (p.free x (b i li).known (false_from_ne_true _ placed) (λ e. apart j i gt li (sym e)))).0

  before : (i j : ℕ) → i < length order → j < length order → must_precede R (get_or order i 0) (get_or order j 0) ≡ true → i < j
  before i j li lj m =
      ⊎_elim (λ e. absurd (both_ways _ (irreflexive j lj) (ap (λ k. must_precede R (get_or order k 0) (get_or order j 0)) (sym e) ∙ m)))
      (⊎_elim (λ lt. lt) (λ gt. absurd (both_ways _ (later i j gt li) m)))
      (cases_order i j)

  pub built_legal : length order ≡ R.size → Legal R order
  built_legal long = record {
    long = long;
    known = λ i lt. (b i lt).known;
    once = once;
    model = λ i j li lj m. before i j li lj (or_left _ _ m);
    clock = λ i j li lj c. before i j li lj (or_right _ _ c);
    reads = λ i lt load. (b i lt).value load;
  }

-- Admission keeps the rules of records. Assumes nothing.
use Rattle.std.proofs.Common.{◌≡◌, ℕ, ◌+◌, ◌<◌, ◌≤◌, true, false, cond, ◌&&◌, eqb, ltb, leb, List, [], ◌∷◌, ◌++◌, length, is_ok, Ok, sym, refl, ap, ◌∙◌, subst, ⊎_elim, append_assoc, append-nil, arith, length-append}
use Rattle.std.proofs.lemmas.List.{get_or_append_left, get_or_push}
use Rattle.std.proofs.lemmas.List.Folds.{list_any_at}
use Rattle.std.proofs.lemmas.List.Sums.{fold_push}
use Rattle.std.proofs.lemmas.Bool.{and_parts, and_from, or_parts, eq-eqb, leb-false, ltb-false, cases_eq, cond-true, cond-false, both_ways, ne_eqb}
use Rattle.std.proofs.lemmas.Bool.Decides.{nat_tests}
use Rattle.memory.specs.declared.kinds.Kind.{Kind}
use Rattle.memory.specs.declared.records.Record.{Record}
use Rattle.memory.specs.Admission.{logged, blank_entry, last_enter, same_store, twin, judgement, admits}
use Rattle.memory.specs.Kinds.{is_store, is_fence}
use Rattle.memory.specs.Lawful.{Lawful, nth}
use Rattle.memory.specs.Limits.{most_records, reading_limit}
use Rattle.std.specs.List.{list_any}
use Rattle.memory.specs.Runs.{blank}
use Rattle.memory.proofs.Admitted.{Judged, judged, admits_again}

-- the rules, and that no record of a processor entered after the last one did
record Kept (p : ℕ) (rs : List Record) : Type 0 where
  lawful : Lawful p rs
  last : (i : ℕ) → i < length rs → (nth rs i).enter ≤ last_enter rs (nth rs i).processor

kept_none : (p : ℕ) → Kept p []
kept_none p = record {
  lawful = record {
    few = omega arith;
    local = λ i lt. absurd (omega arith);
    written = λ i lt. absurd (omega arith);
    bare = λ i lt. absurd (omega arith);
    timed = λ i lt. absurd (omega arith);
    forward = λ i j lt lj. absurd (omega arith);
    apart = λ i j li. absurd (omega arith);
  };
  last = λ i lt. absurd (omega arith);
}

module _ (rs : List Record) (r : Record) where
  abbrev more : List Record
  more = rs ++ r ∷ []

  old : (i : ℕ) → i < length rs → nth more i ≡ nth rs i
  old i lt = get_or_append_left rs (r ∷ []) blank i lt

  new : nth more (length rs) ≡ r
  new = get_or_push rs r blank (length rs) refl

  long : length more ≡ length rs + 1
  long = length-append rs (r ∷ [])

  -- what holds of each record so far and of the new one holds of each
  each : (P : Record → Type 0) → ((i : ℕ) → i < length rs → P (nth rs i)) → P r → (i : ℕ) → i < length more → P (nth more i)
  each P before now i lt =
      ⊎_elim (λ e. subst P (sym (ap (nth more) e ∙ new)) now) (λ e. let within : i < length rs = omega (arith, long) in subst P (sym (old i within)) (before i within)) (cases_eq i (length rs))

  -- one more lawful record
  module _ (p : ℕ) (h : Kept p rs) (ok : judgement p rs (logged r) ≡ Ok r) where
    passed : (k : Kind) × Judged p rs (logged r) k r
    passed = judged p rs (logged r) r ok

    tests : Judged p rs (logged r) passed.0 r
    tests = passed.1

    kind_is : passed.0 ≡ r.kind
    kind_is = ap (λ x. x.kind) tests.is

    filled : blank_entry r.kind (logged r) ≡ false
    filled = subst (λ k. blank_entry k (logged r) ≡ false) kind_is tests.filled

    single : twin r.kind rs (logged r) ≡ false
    single = subst (λ k. twin k rs (logged r) ≡ false) kind_is tests.single

    periods : (r.enter ≤ r.commit) × (last_enter rs r.processor ≤ r.enter)
    periods =
        let b = or_parts (ltb r.commit r.enter) (ltb r.enter (last_enter rs r.processor)) tests.onward in
        (ltb-false r.commit r.enter b.0, ltb-false r.enter (last_enter rs r.processor) b.1)

    early : r.commit < reading_limit
    early = leb-false reading_limit r.commit (or_parts (leb reading_limit r.enter) (leb reading_limit r.commit) tests.early).1

    enter_on : (q : ℕ) → last_enter more q ≡ cond (eqb r.processor q) r.enter (last_enter rs q)
    enter_on q = fold_push (λ v x. cond (eqb x.processor q) x.enter v) 0 rs r

    -- a store that equals the new one is a twin
    no_twin : (i : ℕ) → i < length rs → is_store (nth rs i).kind ≡ true → is_store r.kind ≡ true → (nth rs i).address ≡ r.address → (nth rs i).value ≡ r.value → ⊥
    no_twin i lt si sr a v =
        let none : list_any (same_store (logged r)) rs ≡ false = sym (ap (λ b. b && list_any (same_store (logged r)) rs) sr) ∙ single in
        both_ways _ none (list_any_at (same_store (logged r)) rs i blank lt (and_from (is_store (nth rs i).kind) _ si (and_from (eqb (nth rs i).address r.address) _ (eq-eqb _ _ a) (eq-eqb _ _ v))))

    last_old : (i : ℕ) → i < length rs → (nth rs i).enter ≤ last_enter more (nth rs i).processor
    last_old i lt =
        let q : ℕ = (nth rs i).processor in
        ⊎_elim
        (λ e. omega (arith, enter_on q ∙ cond-true (eqb r.processor q) r.enter (last_enter rs q) (eq-eqb r.processor q e), h.last i lt, ap (last_enter rs) e, periods.1))
        (λ e. omega (arith, enter_on q ∙ cond-false (eqb r.processor q) r.enter (last_enter rs q) (ne_eqb r.processor q e), h.last i lt))
        (cases_eq r.processor q)

    last_new : r.enter ≤ last_enter more r.processor
    last_new = omega (arith, enter_on r.processor ∙ cond-true (eqb r.processor r.processor) r.enter (last_enter rs r.processor) (eq-eqb r.processor r.processor refl))

    written_new : is_store r.kind ≡ true → r.value ≡ 0 → ⊥
    written_new store zero_is = let f = filled in let z : eqb r.value 0 ≡ true = eq-eqb r.value 0 zero_is in grind (arith, nat_tests)

    bare_new : is_fence r.kind ≡ true → (r.address ≡ 0) × (r.value ≡ 0)
    bare_new fence = let f = filled in (grind (arith, nat_tests), grind (arith, nat_tests))

    forward_on : (i j : ℕ) → i < j → j < length more → (nth more i).processor ≡ (nth more j).processor → (nth more i).enter ≤ (nth more j).enter
    forward_on i j lt lj same =
        let li : i < length rs = omega (arith, long) in
        let at_i = old i li in
        ⊎_elim
        (λ e.
        let at_j : nth more j ≡ r = ap (nth more) e ∙ new in
        let q : (nth rs i).processor ≡ r.processor = sym (ap (λ x. x.processor) at_i) ∙ same ∙ ap (λ x. x.processor) at_j in
        omega (arith, ap (λ x. x.enter) at_i, ap (λ x. x.enter) at_j, h.last i li, ap (last_enter rs) q, periods.1))
        (λ e.
        let lj' : j < length rs = omega (arith, long) in
        let at_j = old j lj' in
        omega (arith, ap (λ x. x.enter) at_i, ap (λ x. x.enter) at_j, h.lawful.forward i j lt lj' (sym (ap (λ x. x.processor) at_i) ∙ same ∙ ap (λ x. x.processor) at_j)))
        (cases_eq j (length rs))

    apart_on : (i j : ℕ) → i < length more → j < length more → is_store (nth more i).kind ≡ true → is_store (nth more j).kind ≡ true → (nth more i).address ≡ (nth more j).address → (nth more i).value ≡ (nth more j).value → i ≡ j
    apart_on i j li lj si sj a v =
        ⊎_elim
        (λ e. ⊎_elim (λ f. e ∙ sym f)
        (λ f.
        let lj' : j < length rs = omega (arith, long) in
        let at_i : nth more i ≡ r = ap (nth more) e ∙ new in
        let at_j = old j lj' in
        absurd (no_twin j lj' (ap (λ x. is_store x.kind) (sym at_j) ∙ sj) (ap (λ x. is_store x.kind) (sym at_i) ∙ si) (ap (λ x. x.address) (sym at_j) ∙ sym a ∙ ap (λ x. x.address) at_i) (ap (λ x. x.value) (sym at_j) ∙ sym v ∙ ap (λ x. x.value) at_i)))
        (cases_eq j (length rs)))
        (λ e.
        let li' : i < length rs = omega (arith, long) in
        let at_i = old i li' in
        ⊎_elim
        (λ f.
        let at_j : nth more j ≡ r = ap (nth more) f ∙ new in
        absurd (no_twin i li' (ap (λ x. is_store x.kind) (sym at_i) ∙ si) (ap (λ x. is_store x.kind) (sym at_j) ∙ sj) (ap (λ x. x.address) (sym at_i) ∙ a ∙ ap (λ x. x.address) at_j) (ap (λ x. x.value) (sym at_i) ∙ v ∙ ap (λ x. x.value) at_j)))
        (λ f.
        let lj' : j < length rs = omega (arith, long) in
        let at_j = old j lj' in
        h.lawful.apart i j li' lj' (ap (λ x. is_store x.kind) (sym at_i) ∙ si) (ap (λ x. is_store x.kind) (sym at_j) ∙ sj) (ap (λ x. x.address) (sym at_i) ∙ a ∙ ap (λ x. x.address) at_j) (ap (λ x. x.value) (sym at_i) ∙ v ∙ ap (λ x. x.value) at_j))
        (cases_eq j (length rs)))
        (cases_eq i (length rs))

    kept_more : Kept p more
    kept_more = record {
      lawful = record {
        few = omega (arith, long, leb-false most_records (length rs) tests.room);
        local = each (λ x. x.processor < p) h.lawful.local (leb-false p r.processor tests.local);
        written = each (λ x. is_store x.kind ≡ true → x.value ≡ 0 → ⊥) h.lawful.written written_new;
        bare = each (λ x. is_fence x.kind ≡ true → (x.address ≡ 0) × (x.value ≡ 0)) h.lawful.bare bare_new;
        timed = each (λ x. (x.enter ≤ x.commit) × (x.commit < reading_limit)) h.lawful.timed (periods.0, early);
        forward = forward_on;
        apart = apart_on;
      };
      last = each (λ x. x.enter ≤ last_enter more x.processor) last_old last_new;
    }

kept_on : (p : ℕ) (rs rest : List Record) → Kept p rs → admits p rs rest ≡ true → Kept p (rs ++ rest)
kept_on p rs [] h adm = subst (Kept p) (sym (append-nil rs)) h
kept_on p rs (r ∷ rest) h adm =
    let a = and_parts (is_ok (judgement p rs (logged r))) (admits p (rs ++ r ∷ []) rest) adm in
    subst (Kept p) (append_assoc rs (r ∷ []) rest) (kept_on p (rs ++ r ∷ []) rest (kept_more rs r p h (admits_again p rs r a.0)) a.1)

-- records that were admitted one after the other are lawful
pub lawful_all : (p : ℕ) (rs : List Record) → admits p [] rs ≡ true → Lawful p rs
lawful_all p rs adm = (kept_on p [] rs (kept_none p) adm).lawful

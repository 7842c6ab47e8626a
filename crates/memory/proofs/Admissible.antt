-- Admission refuses nothing that the rules of records allow. Assumes nothing.
use Rattle.std.proofs.Common.{◌≡◌, ℕ, suc, ◌+◌, ◌<◌, ◌≤◌, Bool, true, false, cond, ◌&&◌, eqb, List, [], ◌∷◌, ◌++◌, length, fold, Some, Ok, Err, OnErr, Result, sym, refl, ap, ◌∙◌, subst, arith, length-append}
use Rattle.std.proofs.lemmas.List.{get_or_append_left, get_or_push}
use Rattle.std.proofs.lemmas.Bool.{and_parts, eqb-true, lt-leb, le-ltb, or_from, cond-false, false_from_ne_true}
use Rattle.std.proofs.lemmas.Bool.Decides.{nat_tests}
use Rattle.memory.specs.declared.kinds.Kind.{Kind}
use Rattle.memory.specs.declared.kinds.Kind.TheVariants.{Load, Store, Fence}
use Rattle.memory.specs.declared.records.Entry.{Entry}
use Rattle.memory.specs.declared.records.Record.{Record}
use Rattle.memory.specs.declared.refusals.Refusal.{Refusal}
use Rattle.memory.specs.Admission.{record_of, full, stranger, blank_entry, beyond, backward, last_enter, same_store, twin, judge_kind, judgement}
use Rattle.memory.specs.Kinds.{kind_at, is_store, is_fence}
use Rattle.memory.specs.Lawful.{Lawful, Breaks, nth}
use Rattle.memory.specs.Limits.{most_records, reading_limit}
use Rattle.memory.specs.Runs.{blank}
use Rattle.std.specs.List.{list_any}

-- what bounds each enter reading of a processor bounds its last
last_bounded : (q b : ℕ) (rs : List Record) (v : ℕ) → v ≤ b → ((i : ℕ) → i < length rs → (nth rs i).processor ≡ q → (nth rs i).enter ≤ b) → fold (λ v r. cond (eqb r.processor q) r.enter v) v rs ≤ b
last_bounded q b [] v le each = le
last_bounded q b (r ∷ rs) v le each = last_bounded q b rs (cond (eqb r.processor q) r.enter v) (by (eqb r.processor q) refl) (λ i lt same. each (suc i) (omega arith) same)
  where
    by : (t : Bool) → eqb r.processor q ≡ t → cond t r.enter v ≤ b
    by true e = each 0 (omega arith) (eqb-true r.processor q e)
    by false e = le

-- a test that no element passes
none_passes : (p : Record → Bool) (rs : List Record) → ((i : ℕ) → i < length rs → p (nth rs i) ≡ false) → list_any p rs ≡ false
none_passes p [] each = refl
none_passes p (r ∷ rs) each = or_from (p r) (list_any p rs) (each 0 (omega arith)) (none_passes p rs (λ i lt. each (suc i) (omega arith)))

module _ (p : ℕ) (rs : List Record) (e : Entry) (k : Kind) (is : kind_at e.kind ≡ Some k) (h : Lawful p (rs ++ record_of k e ∷ [])) where
  abbrev r : Record
  r = record_of k e

  abbrev more : List Record
  more = rs ++ r ∷ []

  old : (i : ℕ) → i < length rs → nth more i ≡ nth rs i
  old i lt = get_or_append_left rs (r ∷ []) blank i lt

  new : nth more (length rs) ≡ r
  new = get_or_push rs r blank (length rs) refl

  long : length more ≡ length rs + 1
  long = length-append rs (r ∷ [])

  within : length rs < length more
  within = omega (arith, long)

  timed : (e.enter ≤ e.commit) × (e.commit < reading_limit)
  timed = subst (λ (x : Record). (x.enter ≤ x.commit) × (x.commit < reading_limit)) new (h.timed (length rs) within)

  has_room : full rs ≡ false
  has_room = lt-leb most_records (length rs) (omega (arith, long, h.few))

  is_local : stranger p e ≡ false
  is_local = lt-leb p e.processor (subst (λ (x : Record). x.processor < p) new (h.local (length rs) within))

  is_early : beyond e ≡ false
  is_early = or_from _ _ (lt-leb reading_limit e.enter (omega (arith, timed.0, timed.1))) (lt-leb reading_limit e.commit timed.1)

  forward : (i : ℕ) → i < length rs → (nth rs i).processor ≡ e.processor → (nth rs i).enter ≤ e.enter
  forward i lt same = omega (arith, ap (λ x. x.enter) (old i lt), ap (λ x. x.enter) new, h.forward i (length rs) lt within (ap (λ x. x.processor) (old i lt) ∙ same ∙ sym (ap (λ x. x.processor) new)))

  is_onward : backward rs e ≡ false
  is_onward = or_from _ _ (le-ltb e.commit e.enter timed.0) (le-ltb e.enter (last_enter rs e.processor) (last_bounded e.processor e.enter rs 0 (omega arith) forward))

  -- an admitted store that equals the new one would be the same record
  no_twin : is_store k ≡ true → (i : ℕ) → i < length rs → same_store e (nth rs i) ≡ false
  no_twin store i lt =
      false_from_ne_true _ (λ same.
      let x : Record = nth rs i in
      let parts = and_parts (is_store x.kind) (eqb x.address e.address && eqb x.value e.value) same in
      let both = and_parts (eqb x.address e.address) (eqb x.value e.value) parts.1 in
      let i_more : i < length more = omega (arith, long, lt) in
      let one : i ≡ length rs =
      h.apart i (length rs) i_more within
      (ap (λ x. is_store x.kind) (old i lt) ∙ parts.0) (ap (λ x. is_store x.kind) new ∙ store)
      (ap (λ x. x.address) (old i lt) ∙ eqb-true x.address e.address both.0 ∙ sym (ap (λ x. x.address) new))
      (ap (λ x. x.value) (old i lt) ∙ eqb-true x.value e.value both.1 ∙ sym (ap (λ x. x.value) new)) in
      omega (arith, one, lt))

  is_single : twin k rs e ≡ false
  is_single = by (is_store k) refl
    where
      by : (t : Bool) → is_store k ≡ t → (t && list_any (same_store e) rs) ≡ false
      by true store = none_passes (same_store e) rs (no_twin store)
      by false store = refl

  written : is_store r.kind ≡ true → r.value ≡ 0 → ⊥
  written = subst (λ (x : Record). is_store x.kind ≡ true → x.value ≡ 0 → ⊥) new (h.written (length rs) within)

  bare : is_fence r.kind ≡ true → (r.address ≡ 0) × (r.value ≡ 0)
  bare = subst (λ (x : Record). is_fence x.kind ≡ true → (x.address ≡ 0) × (x.value ≡ 0)) new (h.bare (length rs) within)

  is_filled : blank_entry k e ≡ false
  is_filled = filled k written bare
    where
      filled : (k : Kind) → (is_store k ≡ true → e.value ≡ 0 → ⊥) → (is_fence k ≡ true → (e.address ≡ 0) × (e.value ≡ 0)) → blank_entry k e ≡ false
      filled Load w b = refl
      filled Store w b = let some = w refl in grind (arith, nat_tests)
      filled Fence w b = let none = b refl in grind (arith, nat_tests)

  admitted : judgement p rs e ≡ Ok r
  admitted =
      cond-false (full rs) _ _ has_room ∙ cond-false (stranger p e) _ _ is_local ∙ ap (λ o. judge_kind o rs e) is
      ∙ cond-false (blank_entry k e) _ _ is_filled ∙ cond-false (beyond e) _ _ is_early ∙ cond-false (backward rs e) _ _ is_onward ∙ cond-false (twin k rs e) _ _ is_single

-- a refused entry breaks the rules
pub breaks : (p : ℕ) (rs : List Record) (e : Entry) (r : Result Record Refusal) → judgement p rs e ≡ r → OnErr r (Breaks p rs e)
breaks p rs e (Ok x) told = tt
breaks p rs e (Err f) told = λ k is h. let z : Ok (record_of k e) ≡ Err f = sym (admitted p rs e k is h) ∙ told in cc

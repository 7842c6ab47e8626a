-- What the tests of a record that may be placed say. Assumes nothing.
use Rattle.std.proofs.Common.{◌≡◌, ℕ, ◌-◌, ◌<◌, Bool, true, false, cond, not, ◌&&◌, ◌||◌, List, [], ◌∷◌, length, Some, None, Option, eqb, ltb, refl, ap, ◌∙◌, arith, ⊎_elim}
use Rattle.std.proofs.lemmas.Bool.{cases_Bool, cases_lt, both_ways, ltb-true, lt-ltb, and_parts, and_from, or_cases, or_left, or_right, eqb-true, eqb-false, eq-eqb, not-true, not_from_false, ne_eqb, false_from_ne_true}
use Rattle.std.proofs.lemmas.List.{get_or_past}
use Rattle.std.proofs.lemmas.List.Folds.{Any-from_list_any, list_any-from_Any}
use Rattle.std.specs.Cmp.{both_ways as alike}
use Rattle.std.specs.List.{fold}
use Rattle.memory.specs.declared.lines.Line.{Line}
use Rattle.memory.specs.declared.records.Record.{Record}
use Rattle.memory.specs.Legal.{writes}
use Rattle.memory.specs.Reading.{Least}
use Rattle.memory.specs.Runs.{Setting, Run, Known, run_of, has, must_precede, at, blank}
use Rattle.memory.proofs.Least.{least_once, picked}
use Rattle.inference.specs.Rules.{among, known, some, has_pair, listed}
use Rattle.inference.proofs.First.{some_at, some_from}
use Rattle.inference.proofs.Follows.{known_is, is_known}
use Rattle.search.specs.Parts.{awaits_by_setting, line_awaits, awaits_by_line}
use Rattle.search.specs.Placing.{Standing, Placeable, Above, Takes, distinct, precedes, awaits, reads_right, placeable, above, candidate, takes}

module _ (S : Setting) (rs : List Record) (a : ℕ) where
  -- what the address holds after one more record, where a number of no record is passed over
  abbrev pub after : ℕ → ℕ → ℕ
  after v x = cond (known (run_of S rs) x && writes (run_of S rs) x a) (at rs x).value v

  -- what is read where there is no record is no store
  after_is : (v x : ℕ) (b : Bool) → 0 < x → known (run_of S rs) x ≡ b → after v x ≡ cond (writes (run_of S rs) x a) (at rs x).value v
  after_is v x true some e = cc e
  after_is v x false some e = cc (e, past)
    where
      past : at rs x ≡ blank
      past = get_or_past rs (x - 1) blank (⊎_elim (λ lt. absurd (both_ways _ e (is_known (run_of S rs) x (record { some = some; within = omega arith })))) (λ ge. ge) (cases_lt (x - 1) (length rs)))

  pub after_all : (n : ℕ) (xs : List ℕ) (v : ℕ) → distinct n xs ≡ true → fold after v xs ≡ fold (λ v x. cond (writes (run_of S rs) x a) (at rs x).value v) v xs
  after_all n [] v e = refl
  after_all n (x ∷ xs) v e =
      let p = and_parts (among n x) _ e in
      let some : 0 < x = ltb-true 0 x (and_parts (ltb 0 x) _ p.0).0 in
      ap (λ w. fold after w xs) (after_is v x _ some refl) ∙ after_all n xs _ (and_parts (not (has xs x)) _ p.1).1

module _ (R : Run) (ls : List Line) (placed : List ℕ) (k : ℕ) where
  -- another unplaced record, which must come before k
  record Awaited : Type 0 where
    pub first : ℕ
    pub known : Known R first
    pub other : first ≡ k → ⊥
    pub unplaced : has placed first ≡ false
    pub before : precedes R ls first k ≡ true

  awaited_is : some (awaits R ls placed k) R.size ≡ true → Awaited
  awaited_is e =
      let (u, some, within, here) = some_at (awaits R ls placed k) R.size e in
      let p = and_parts (not (eqb u k)) _ here in
      let q = and_parts (not (has placed u)) _ p.1 in
      record { first = u; known = record { some = some; within = within }; other = eqb-false u k (not-true _ p.0); unplaced = not-true _ q.0; before = q.1 }

  is_awaited : Awaited → some (awaits R ls placed k) R.size ≡ true
  is_awaited a =
      let other : eqb a.first k ≡ false = ne_eqb a.first k a.other in
      some_from (awaits R ls placed k) R.size a.first a.known.some a.known.within (cc (other, a.unplaced, a.before))

  by_setting_is : some (awaits_by_setting R placed k) R.size ≡ true → Awaited
  by_setting_is e =
      let (u, some, within, here) = some_at (awaits_by_setting R placed k) R.size e in
      let p = and_parts (not (eqb u k)) _ here in
      let q = and_parts (known R u && (known R k && must_precede R u k)) _ p.1 in
      let r = and_parts (known R u) _ q.0 in
      let m = and_parts (known R k) _ r.1 in
      record { first = u; known = known_is R u r.0; other = eqb-false u k (not-true _ p.0); unplaced = not-true _ q.1; before = or_left (must_precede R u k) _ m.1 }

  is_by_setting : known R k ≡ true → (a : Awaited) → must_precede R a.first k ≡ true → some (awaits_by_setting R placed k) R.size ≡ true
  is_by_setting in_run a m =
      let other : eqb a.first k ≡ false = ne_eqb a.first k a.other in
      some_from (awaits_by_setting R placed k) R.size a.first a.known.some a.known.within (cc (other, is_known R a.first a.known, in_run, m, a.unplaced))

  by_line_is : awaits_by_line R ls placed k ≡ true → Awaited
  by_line_is e =
      let (i, l, lt, at, here) = Any-from_list_any (line_awaits R placed k) ls e in
      let p = and_parts (eqb l.second k) _ here in
      let q = and_parts (not (eqb l.first k)) _ p.1 in
      let r = and_parts (known R l.first) _ q.1 in
      let pair : has_pair l.first k l ≡ true = and_from (eqb l.first l.first) _ (eq-eqb l.first l.first refl) p.0 in
      let before : listed ls l.first k ≡ true = list_any-from_Any (has_pair l.first k) ls (i, l, lt, at, pair) in
      record { first = l.first; known = known_is R l.first r.0; other = eqb-false l.first k (not-true _ q.0); unplaced = not-true _ r.1; before = or_right (must_precede R l.first k) _ before }

  is_by_line : (a : Awaited) → listed ls a.first k ≡ true → awaits_by_line R ls placed k ≡ true
  is_by_line a e =
      let (i, l, lt, at, here) = Any-from_list_any (has_pair a.first k) ls e in
      let p = and_parts (eqb l.first a.first) _ here in
      let first : l.first ≡ a.first = eqb-true l.first a.first p.0 in
      let other : eqb a.first k ≡ false = ne_eqb a.first k a.other in
      list_any-from_Any (line_awaits R placed k) ls (i, l, lt, at, cc (first, p.1, other, is_known R a.first a.known, a.unplaced))

  -- another unplaced record must come first just where one must by the model or the clock, or by a line
  pub awaits_parts : known R k ≡ true → some (awaits R ls placed k) R.size ≡ (some (awaits_by_setting R placed k) R.size || awaits_by_line R ls placed k)
  awaits_parts in_run =
      alike _ _
      (λ e. let a = awaited_is e in ⊎_elim (λ m. or_left (some (awaits_by_setting R placed k) R.size) _ (is_by_setting in_run a m)) (λ l. or_right (some (awaits_by_setting R placed k) R.size) _ (is_by_line a l)) (or_cases (must_precede R a.first k) _ a.before))
      (λ e. is_awaited (⊎_elim by_setting_is by_line_is (or_cases (some (awaits_by_setting R placed k) R.size) _ e)))

  pub placeable_is : Known R k → placeable R ls placed k ≡ true → Placeable R ls placed k
  placeable_is known e =
      let p = and_parts (not (has placed k)) _ e in
      let q = and_parts (reads_right R placed k) _ p.1 in
      record {
        known = known;
        unplaced = not-true _ p.0;
        free = λ u in_run unplaced other. false_from_ne_true _ (λ b. both_ways _ (not-true _ q.1) (is_awaited (record { first = u; known = in_run; other = other; unplaced = unplaced; before = b })));
        value = λ load. ⊎_elim (λ n. absurd (both_ways _ (not-true _ n) load)) (λ v. eqb-true _ _ v) (or_cases (not (R.load k)) _ q.0);
      }

  pub is_placeable : Placeable R ls placed k → placeable R ls placed k ≡ true
  is_placeable p =
      let reads : reads_right R placed k ≡ true = ⊎_elim (λ load. or_right (not (R.load k)) _ (eq-eqb _ _ (p.value load))) (λ n. or_left (not (R.load k)) _ (not_from_false _ n)) (cases_Bool (R.load k)) in
      let free : some (awaits R ls placed k) R.size ≡ false = false_from_ne_true _ (λ e. let a = awaited_is e in both_ways _ (p.free a.first a.known a.unplaced a.other) a.before) in
      let unplaced : has placed k ≡ false = p.unplaced in
      cc (reads, free, unplaced)

above_is : (m : Option ℕ) (k : ℕ) → above m k ≡ true → Above m k
above_is None k e = tt
above_is (Some m) k e = ltb-true m k e

is_above : (m : Option ℕ) (k : ℕ) → Above m k → above m k ≡ true
is_above None k a = refl
is_above (Some m) k a = lt-ltb m k a

module _ (R : Run) (ls : List Line) (s : Standing) where
  is_candidate : (k : ℕ) → Placeable R ls s.placed k → Above s.mark k → candidate R ls s k ≡ true
  is_candidate k p a = and_from (above s.mark k) _ (is_above s.mark k a) (is_placeable R ls s.placed k p)

  -- a step takes the least candidate
  pub takes_least : (r : Option ℕ) → Least (candidate R ls s) R.size r → Takes R ls s r
  takes_least None none = λ k p a. both_ways _ (none k p.known.some p.known.within) (is_candidate k p a)
  takes_least (Some k) (some, within, here, least) =
      let p = and_parts (above s.mark k) _ here in (
        placeable_is R ls s.placed k (record { some = some; within = within }) p.1,
        above_is s.mark k p.0,
        λ j q a. ⊎_elim (λ lt. absurd (both_ways _ (least j q.known.some lt) (is_candidate j q a))) (λ ge. ge) (cases_lt j k),
      )

  pub takes_is : Takes R ls s (takes R ls s)
  unfolding takes
  takes_is = takes_least _ (picked (candidate R ls s) R.size)

  pub least_is : (r : Option ℕ) → Least (candidate R ls s) R.size r → r ≡ takes R ls s
  unfolding takes
  least_is r l = least_once (candidate R ls s) R.size r _ l (picked (candidate R ls s) R.size)

-- The needed lines stand on their own. Assumes nothing.
use Rattle.std.proofs.Common.{◌≡◌, ℕ, ◌+◌, ◌-◌, ◌<◌, ◌≤◌, Bool, true, false, not, eqb, List, length, take, get_or, Some, None, Option, refl, sym, ap, ◌∙◌, subst, inl, inr, ⊎_elim, arith}
use Rattle.std.specs.List.{list_any}
use Rattle.std.proofs.lemmas.Bool.{and_parts, and_from, both_ways, eqb-true, eq-eqb, ne_eqb, not-true, not_from_false, cases_Bool, cases_eq, cases_lt}
use Rattle.std.proofs.lemmas.List.{get_or-take, get_or-map, get_or_default, length-take-le, length-map}
use Rattle.std.proofs.lemmas.List.Folds.{Any-from_list_any, list_any-from_Any, list_any_at}
use Rattle.std.proofs.lemmas.List.Kept.{AllPairs-from_increasing}
use Rattle.memory.specs.declared.lines.Line.{Line}
use Rattle.memory.specs.declared.lines.Rule.{Rule}
use Rattle.memory.specs.declared.lines.Rule.TheVariants.{Clock, Model, ReadsFrom, InitialRead, Coherence, FromRead, Transitive}
use Rattle.memory.specs.declared.records.Record.{Record}
use Rattle.memory.specs.Reading.{Least, pick, numbered}
use Rattle.memory.specs.Runs.{Setting, Run, Known, run_of}
use Rattle.memory.proofs.Least.{picked}
use Rattle.inference.specs.Next.{fits}
use Rattle.inference.specs.Rules.{known, has_pair, listed, reads, rivals, overwritten, by_rule, names_third, third_fits, follows}
use Rattle.inference.proofs.First.{some_at, some_from}
use Rattle.inference.proofs.Follows.{known_is, is_known, following}
use Rattle.finding.specs.Finding.{opposed_to}
use Rattle.finding.specs.Resting.{no_line, line_at, reads_number, gives_first, gives_second, RestsOn, LastOpposed, Needed, AreNeeded, lines_at, Founded, EndsOpposed, StandAlone}
use Rattle.finding.proofs.Premises.{rests_before, least_as, needed_within}

-- where a line before an index passes a test, there is a first one
first_passing : (t : Line → Bool) (ls : List Line) (n : ℕ) → n ≤ length ls → list_any t (take n ls) ≡ true → (j : ℕ) × Least (λ k. t (line_at ls k)) n (Some j)
first_passing t ls n le any = go (numbered (pick p n)) (picked p n)
  where
    p : ℕ → Bool
    p = λ k. t (line_at ls k)

    go : (r : Option ℕ) → Least p n r → (j : ℕ) × Least p n (Some j)
    go (Some j) h = (j, h)
    go None none =
        let a = Any-from_list_any t (take n ls) any in
        let lt : a.0 < n = omega (arith, a.2, length-take-le n ls le) in
        let is : line_at ls (a.0 + 1) ≡ a.1 =
        let here : a.0 + 1 - 1 ≡ a.0 = omega arith in
        ap (λ i. get_or ls i no_line) here ∙ get_or_default ls a.0 no_line a.1 (omega (arith, lt)) ∙ sym (get_or-take n ls a.0 a.1 lt) ∙ a.3
        in
        absurd (both_ways _ (none (a.0 + 1) (omega arith) (omega (arith, lt))) (ap t is ∙ a.4))

pair_of : (m : Line) → has_pair m.first m.second m ≡ true
pair_of m = and_from (eqb m.first m.first) (eqb m.second m.second) (eq-eqb _ _ refl) (eq-eqb _ _ refl)

-- a listed line of two records that passes a test
record Given (t : Line → Bool) (kept : List Line) : Type 0 where
  line : Line
  passes : t line ≡ true
  is_listed : listed kept line.first line.second ≡ true
  apart : line.first ≡ line.second → ⊥

-- where what a line rests on is kept, it follows from what is kept
module _ (S : Setting) (rs : List Record) (before kept : List Line) (l : Line) where
  abbrev R : Run
  R = run_of S rs

  has_listed : (a b : ℕ) (m : Line) → has_pair a b m ≡ true → listed kept m.first m.second ≡ true → listed kept a b ≡ true
  has_listed a b m is h =
      let p = and_parts (eqb m.first a) (eqb m.second b) is in
      subst (λ y. listed kept a y ≡ true) (eqb-true _ _ p.1) (subst (λ x. listed kept x m.second ≡ true) (eqb-true _ _ p.0) h)

  read_listed : (w : ℕ) → reads_number rs l.first w ≡ true → listed before w l.second ≡ true → list_any (λ m. gives_first rs FromRead l m) before ≡ true
  read_listed w r h =
      let a = Any-from_list_any (has_pair w l.second) before h in
      let p = and_parts (eqb a.1.first w) (eqb a.1.second l.second) a.4 in
      list_any-from_Any (λ m. gives_first rs FromRead l m) before
      (a.0, a.1, a.2, a.3, and_from (eqb a.1.second l.second) _ p.1 (subst (λ x. reads_number rs l.first x ≡ true) (sym (eqb-true _ _ p.0)) r))

  read_known : (u : ℕ) → reads_number rs l.first u ≡ true → Known R u × (reads R l.first u ≡ true)
  read_known u e =
      let p = and_parts (known R l.first) _ e in
      let q = and_parts (known R u) _ p.1 in
      (known_is R u q.0, q.1)

  -- another store that the load reads is overwritten too
  overwritten_too : (w u : ℕ) → reads R l.first w ≡ true → rivals R w l.second ≡ true → reads R l.first u ≡ true → (u ≡ l.second → ⊥) → listed kept u l.second ≡ true → overwritten R kept l.first l.second u ≡ true
  overwritten_too w u one riv other ne h =
      let address : (v : ℕ) → reads R l.first v ≡ true → (R.store v ≡ true) × (R.addr v ≡ R.addr l.first) = λ v e.
      let p = and_parts (R.load l.first) _ e in
      let q = and_parts (not (eqb (R.value l.first) 0)) _ p.1 in
      let s = and_parts (R.store v) _ q.1 in
      (s.0, eqb-true _ _ (and_parts (eqb (R.addr v) (R.addr l.first)) _ s.1).0)
      in
      let p = and_parts (R.store w) _ riv in
      let q = and_parts (R.store l.second) _ p.1 in
      let same : R.addr w ≡ R.addr l.second = eqb-true _ _ (and_parts (eqb (R.addr w) (R.addr l.second)) _ q.1).0 in
      and_from (reads R l.first u) _ other
      (and_from (rivals R u l.second) _
      (and_from (R.store u) _ (address u other).0
      (and_from (R.store l.second) _ q.0
      (and_from (eqb (R.addr u) (R.addr l.second)) _ (eq-eqb _ _ ((address u other).1 ∙ sym (address w one).1 ∙ same)) (not_from_false _ (ne_eqb _ _ ne)))))
      h)

  rule_kept : (r : Rule) → Known R l.first → (list_any (λ m. gives_first rs r l m) before ≡ true → Given (λ m. gives_first rs r l m) kept) → (list_any (λ m. gives_second r l m) before ≡ true → Given (λ m. gives_second r l m) kept) → by_rule R before r l.first l.second l.third ≡ true → by_rule R kept r l.first l.second l.third ≡ true
  rule_kept Clock k one two g = g
  rule_kept Model k one two g = g
  rule_kept ReadsFrom k one two g = g
  rule_kept InitialRead k one two g = g
  rule_kept Coherence k one two g =
      let p = and_parts (reads R l.third l.second) _ g in
      let q = and_parts (rivals R l.first l.second) (listed before l.first l.third) p.1 in
      let m = one q.1 in
      and_from (reads R l.third l.second) _ p.0 (and_from (rivals R l.first l.second) _ q.0 (has_listed l.first l.third m.line m.passes m.is_listed))
  rule_kept FromRead k one two g =
      let s = some_at (overwritten R before l.first l.second) R.size g in
      let w : ℕ = s.0 in
      let p = and_parts (reads R l.first w) _ s.3 in
      let q = and_parts (rivals R w l.second) (listed before w l.second) p.1 in
      let kw : Known R w = record { some = s.1; within = s.2 } in
      let r : reads_number rs l.first w ≡ true = and_from (known R l.first) _ (is_known R l.first k) (and_from (known R w) _ (is_known R w kw) p.0) in
      let m = one (read_listed w r q.1) in
      let u : ℕ = m.line.first in
      let t = and_parts (eqb m.line.second l.second) (reads_number rs l.first u) m.passes in
      let v = read_known u t.1 in
      let second : m.line.second ≡ l.second = eqb-true _ _ t.0 in
      some_from (overwritten R kept l.first l.second) R.size u v.0.some v.0.within
      (overwritten_too w u p.0 q.0 v.1 (λ e. m.apart (e ∙ sym second)) (subst (λ y. listed kept u y ≡ true) second m.is_listed))
  rule_kept Transitive k one two g =
      let p = and_parts (listed before l.first l.third) (listed before l.third l.second) g in
      let m = one p.0 in
      let n = two p.1 in
      and_from (listed kept l.first l.third) _ (has_listed l.first l.third m.line m.passes m.is_listed) (has_listed l.third l.second n.line n.passes n.is_listed)

  follows_kept : (list_any (λ m. gives_first rs l.rule l m) before ≡ true → Given (λ m. gives_first rs l.rule l m) kept) → (list_any (λ m. gives_second l.rule l m) before ≡ true → Given (λ m. gives_second l.rule l m) kept) → follows R before l ≡ true → follows R kept l ≡ true
  follows_kept one two e =
      let t = following R before l e in
      and_from (known R l.first) _ (is_known R _ t.first)
      (and_from (known R l.second) _ (is_known R _ t.second)
      (and_from (not (eqb l.first l.second)) _ (not_from_false _ (ne_eqb _ _ t.apart))
      (and_from (third_fits R (names_third l.rule) l.third) _ t.third
      (rule_kept l.rule t.first one two t.given))))

module _ (rs : List Record) (ls : List Line) (ks : List ℕ) (h : AreNeeded rs ls ks) where
  abbrev kept_lines : List Line
  kept_lines = lines_at ls ks

  abbrev number : ℕ → ℕ
  number q = get_or ks q 0

  needed_at : (q : ℕ) → q < length ks → Needed rs ls (number q)
  needed_at q lt = (h.1 (number q)).0 (q, lt, get_or_default ks q (number q) 0 lt)

  place_of : (j : ℕ) → Needed rs ls j → (q : ℕ) × (q < length ks) × (number q ≡ j)
  place_of j needed = let c = (h.1 j).1 needed in (c.0, c.1, get_or_default ks c.0 0 j c.1 ∙ c.2)

  kept_at : (q : ℕ) → q < length ks → get_or kept_lines q no_line ≡ line_at ls (number q)
  kept_at q lt = get_or-map (line_at ls) ks q 0 no_line lt

  earlier : (q p : ℕ) → q < length ks → p < length ks → number q < number p → q < p
  earlier q p a b lt =
      ⊎_elim (λ is. is)
      (λ ge. absurd (⊎_elim (λ e. omega (arith, lt, ap number e)) (λ ne. let more : p < q = omega (arith, ge, ne) in omega (arith, lt, AllPairs-from_increasing ks h.0 p q 0 more a)) (cases_eq p q)))
      (cases_lt q p)

  -- a needed line with a smaller number is kept before
  listed_before : (p j : ℕ) → p < length ks → Needed rs ls j → j < number p → listed (take p kept_lines) (line_at ls j).first (line_at ls j).second ≡ true
  listed_before p j lt needed less =
      let c = place_of j needed in
      let q : ℕ = c.0 in
      let before : q < p = earlier q p c.1 lt (omega (arith, c.2, less)) in
      let m = line_at ls j in
      let is : get_or (take p kept_lines) q no_line ≡ m = get_or-take p kept_lines q no_line before ∙ kept_at q c.1 ∙ ap (line_at ls) c.2 in
      let within : q < length (take p kept_lines) = omega (arith, before, length-take-le p kept_lines (omega (arith, lt, length-map ks (line_at ls)))) in
      list_any_at (has_pair m.first m.second) (take p kept_lines) q no_line within (subst (λ x. has_pair m.first m.second x ≡ true) (sym is) (pair_of m))

  -- and no other
  unlisted_before : (p a b : ℕ) → p < length ks → listed (take (number p - 1) ls) a b ≡ false → listed (take p kept_lines) a b ≡ false
  unlisted_before p a b lt none =
      ⊎_elim
      (λ e.
      let c = Any-from_list_any (has_pair a b) (take p kept_lines) e in
      let q : ℕ = c.0 in
      let before : q < p = omega (arith, c.2, length-take-le p kept_lines (omega (arith, lt, length-map ks (line_at ls)))) in
      let less = AllPairs-from_increasing ks h.0 q p 0 before lt in
      let w = needed_within rs ls (number q) (needed_at q (omega (arith, before, lt))) in
      let top = needed_within rs ls (number p) (needed_at p lt) in
      let there : number q - 1 < number p - 1 = omega (arith, less, w.0) in
      let is : get_or (take (number p - 1) ls) (number q - 1) no_line ≡ c.1 =
      get_or-take (number p - 1) ls (number q - 1) no_line there
      ∙ sym (kept_at q (omega (arith, before, lt)))
      ∙ get_or_default kept_lines q no_line c.1 (omega (arith, before, lt, length-map ks (line_at ls)))
      ∙ sym (get_or-take p kept_lines q c.1 before)
      ∙ c.3
      in
      let within : number q - 1 < length (take (number p - 1) ls) = omega (arith, there, length-take-le (number p - 1) ls (omega (arith, top.1))) in
      absurd (both_ways _ none (list_any_at (has_pair a b) (take (number p - 1) ls) (number q - 1) no_line within (ap (has_pair a b) is ∙ c.4))))
      (λ e. e)
      (cases_Bool (listed (take p kept_lines) a b))

  module _ (S : Setting) (founded : Founded (run_of S rs) ls) where
    founded_parts : (k : ℕ) → 0 < k → k ≤ length ls → (follows (run_of S rs) (take (k - 1) ls) (line_at ls k) ≡ true) × (not (listed (take (k - 1) ls) (line_at ls k).first (line_at ls k).second) ≡ true)
    founded_parts k some le = and_parts (follows (run_of S rs) (take (k - 1) ls) (line_at ls k)) _ (founded k some le)

    -- what a needed line rests on is kept before it
    given : (p : ℕ) (t : Line → Bool) → p < length ks → ((j : ℕ) → Least (λ k. t (line_at ls k)) (number p - 1) (Some j) → RestsOn rs ls (number p) j) → list_any t (take (number p - 1) ls) ≡ true → Given t (take p kept_lines)
    given p t lt rests any =
        let needed = needed_at p lt in
        let w = needed_within rs ls (number p) needed in
        let f = first_passing t ls (number p - 1) (omega (arith, w.1)) any in
        let j : ℕ = f.0 in
        let r = rests j f.1 in
        let on : Needed rs ls j = λ q has closed. closed (number p) j (needed q has closed) r in
        let wj = needed_within rs ls j on in
        record {
          line = line_at ls j;
          passes = f.1.2;
          is_listed = listed_before p j lt on (omega (arith, w.0, rests_before rs ls (number p) j r));
          apart = (following (run_of S rs) (take (j - 1) ls) (line_at ls j) (founded_parts j wj.0 wj.1).0).apart;
        }

    kept_founded : (p : ℕ) → p < length ks → fits (run_of S rs) (take p kept_lines) (get_or kept_lines p no_line) ≡ true
    kept_founded p lt =
        let w = needed_within rs ls (number p) (needed_at p lt) in
        let l = line_at ls (number p) in
        let parts = founded_parts (number p) w.0 w.1 in
        let follow =
        follows_kept S rs (take (number p - 1) ls) (take p kept_lines) l
        (given p (λ m. gives_first rs l.rule l m) lt (λ j f. inl f))
        (given p (λ m. gives_second l.rule l m) lt (λ j f. inr f))
        parts.0
        in
        let new = not_from_false _ (unlisted_before p l.first l.second lt (not-true _ parts.1)) in
        subst (λ m. fits (run_of S rs) (take p kept_lines) m ≡ true) (sym (kept_at p lt)) (and_from (follows (run_of S rs) (take p kept_lines) l) _ follow new)

  pub stand_alone : StandAlone rs ls kept_lines
  stand_alone S founded k some le = kept_founded S founded (k - 1) (omega (arith, some, le, length-map ks (line_at ls)))

  pub ends_opposed : EndsOpposed ls → EndsOpposed kept_lines
  ends_opposed opposed =
      let n : ℕ = length ls in
      let l = line_at ls n in
      let f = first_passing (has_pair l.second l.first) ls (n - 1) (omega arith) opposed in
      let j : ℕ = f.0 in
      let is : LastOpposed ls (Some j) =
      least_as (λ k. has_pair l.second l.first (line_at ls k)) (opposed_to l ls) (n - 1) (λ k some le. ap (has_pair l.second l.first) (get_or_default ls (k - 1) no_line l (omega (arith, some, le)))) (Some j) f.1
      in
      let last : Needed rs ls n = λ p has closed. has n (j, is, inl refl) in
      let other : Needed rs ls j = λ p has closed. has j (j, is, inr refl) in
      let c = place_of n last in
      let m : ℕ = length ks in
      let at_end : c.0 ≡ m - 1 =
      ⊎_elim (λ less. absurd (omega (arith, c.2, AllPairs-from_increasing ks h.0 c.0 (m - 1) 0 less (omega (arith, c.1)), (needed_within rs ls (number (m - 1)) (needed_at (m - 1) (omega (arith, c.1)))).1)))
      (λ ge. omega (arith, ge, c.1))
      (cases_lt c.0 (m - 1))
      in
      let some : m - 1 < m = omega (arith, c.1) in
      let number_last : number (m - 1) ≡ n = ap number (sym at_end) ∙ c.2 in
      let same : get_or kept_lines (m - 1) no_line ≡ l = kept_at (m - 1) some ∙ ap (line_at ls) number_last in
      let len : length kept_lines ≡ m = length-map ks (line_at ls) in
      let pair = and_parts (eqb (line_at ls j).first l.second) (eqb (line_at ls j).second l.first) f.1.2 in
      let here = listed_before (m - 1) j some other (omega (arith, number_last, f.1.0, f.1.1)) in
      let is_listed : listed (take (m - 1) kept_lines) l.second l.first ≡ true =
      subst (λ y. listed (take (m - 1) kept_lines) l.second y ≡ true) (eqb-true _ _ pair.1) (subst (λ x. listed (take (m - 1) kept_lines) x (line_at ls j).second ≡ true) (eqb-true _ _ pair.0) here)
      in
      subst (λ k. listed (take (k - 1) kept_lines) (line_at kept_lines k).second (line_at kept_lines k).first ≡ true) (sym len)
      (subst (λ x. listed (take (m - 1) kept_lines) x.second x.first ≡ true) (sym same) is_listed)

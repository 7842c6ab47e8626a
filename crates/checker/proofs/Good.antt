-- What every call keeps: records lawful, each line founded, no pair twice, and what is known of the search. Assumes nothing.
use Rattle.std.proofs.Common.{◌≡◌, ℕ, ◌+◌, Bool, true, false, List, [], ◌∷◌, ◌++◌, length, Some, None, Ok, Err, Option, Result, refl, ap, ◌∙◌, subst, arith, length-append, leb, ltb}
use Rattle.std.proofs.lemmas.Bool.{and_from, lt-ltb, le-leb}
use Rattle.std.specs.Option.{option_map}
use Rattle.memory.specs.declared.lines.Line.{Line}
use Rattle.memory.specs.declared.records.Entry.{Entry}
use Rattle.memory.specs.declared.records.Record.{Record}
use Rattle.memory.specs.declared.refusals.Refusal.{Refusal}
use Rattle.memory.specs.declared.verdicts.Verdict.{Verdict}
use Rattle.memory.specs.declared.verdicts.Verdict.TheVariants.{Order, Opposed, Orphan, Exhausted}
use Rattle.memory.specs.Clocks.{LawfulClock}
use Rattle.memory.specs.Admission.{opens, judgement, admits}
use Rattle.memory.specs.Legal.{Claims}
use Rattle.memory.specs.Limits.{most_steps}
use Rattle.memory.specs.Reading.{orphan, names_orphan, first_orphan, Least}
use Rattle.memory.specs.Runs.{Setting, Run, run_of}
use Rattle.memory.proofs.Least.{picked}
use Rattle.memory.proofs.Admitted.{admits_more}
use Rattle.inference.specs.Listing.{Listing, Lists, list_lines}
use Rattle.inference.specs.Paired.{paired}
use Rattle.inference.proofs.Onward.{lists}
use Rattle.inference.proofs.Opposed.{lists_founded, lists_last}
use Rattle.inference.proofs.Pairs.{paired_more}
use Rattle.inference.proofs.Room.{lists_paired}
use Rattle.inference.proofs.Sound.{founded, founded_stays, lines_hold, opposed_none}
use Rattle.search.specs.Placing.{Standing, fresh}
use Rattle.search.specs.Steps.{Walk, walk}
use Rattle.search.proofs.Steps.{BySearch, steps_is, steps_by_search}
use Rattle.search.proofs.Underway.{Underway, Led, first_underway, underway_walk, irreflexive}
use Rattle.stages.specs.declared.Call.TheVariants.{Admit, Infer, Seal, Search}
use Rattle.stages.specs.declared.Stage.{Stage}
use Rattle.stages.specs.declared.Stage.TheVariants.{Open, Sealed, Decided}
use Rattle.stages.specs.Stages.{permits, stage_after, verdict_at}
use Rattle.case.specs.State.{State, opened, with_record}
use Rattle.case.specs.Calls.{opening, open_if, admit_by, admit_if, admitting, stage_listed, with_lines, infer_if, inferring, sealed_verdict, sealed, seal_if, sealing, search_within, search_if, searching}
use Rattle.case.proofs.Sealed.{sealed_claims}
use Rattle.referee.specs.Lines.{last_opposed}
use Rattle.referee.proofs.LastLines.{last_opposed_end, two_opposed}
use Rattle.checker.specs.History.{Invocation, begin, admit, infer, seal, search_on, write_run, write_slip, write_paper, after_call}
use Rattle.checker.specs.Output.{StateClaims}

-- what is known at each stage: no step was made, or the search is under way, or what the verdict claims is true
abbrev pub Stands : Run → Stage → Standing → ℕ → Type 0
Stands R Open t made = (t ≡ fresh) × (made ≡ 0)
Stands R Sealed t made = Underway R t made
Stands R (Decided v) t made = Claims R t.placed (Some v)

-- what a paper rests on besides: the last line is opposed to an earlier one, or the record is an orphan
abbrev pub Grounds : List Record → List Line → Stage → Type 0
Grounds rs ls Open = Unit {0}
Grounds rs ls Sealed = Unit {0}
Grounds rs ls (Decided Order) = Unit {0}
Grounds rs ls (Decided Opposed) = last_opposed ls ≡ true
Grounds rs ls (Decided (Orphan l)) = names_orphan rs l ≡ true
Grounds rs ls (Decided Exhausted) = Unit {0}

-- what every call keeps
pub record Good (S : Setting) (s : State) : Type 0 where
  pub opens : opens s.processors ≡ true
  pub lawful : admits s.processors [] s.records ≡ true
  pub reasons : founded (run_of S s.records) [] s.lines ≡ true
  pub pairs : paired (length s.records) s.lines ≡ true
  pub stands : Stands (run_of S s.records) s.stage s.standing s.total
  pub grounds : Grounds s.records s.lines s.stage

-- where steps led to from a sealed case
led_stands : (R : Run) (v : Option Verdict) (t : Standing) (made : ℕ) → Led R v t made → Stands R (stage_after v Sealed) t made
led_stands R None t made h = h
led_stands R (Some v) t made h = h

module _ (S : Setting) where
  -- a case that is sealed with no step made
  first_stands : (rs : List Record) → Stands (run_of S rs) (stage_after (sealed_verdict rs) Sealed) fresh 0
  first_stands [] = sealed_claims S []
  first_stands (r ∷ rs) = by (sealed_verdict (r ∷ rs)) (sealed_claims S (r ∷ rs))
    where
      by : (v : Option Verdict) → Claims (run_of S (r ∷ rs)) [] v → Stands (run_of S (r ∷ rs)) (stage_after v Sealed) fresh 0
      by None c = first_underway (run_of S (r ∷ rs)) (omega arith)
      by (Some v) c = c

  -- a case that is sealed rests on the smallest orphan, if there is one
  first_grounds : (rs : List Record) (ls : List Line) → Grounds rs ls (stage_after (sealed_verdict rs) Sealed)
  first_grounds [] ls = tt
  first_grounds (r ∷ rs) ls = by (first_orphan (r ∷ rs)) (picked (orphan (r ∷ rs)) (length (r ∷ rs)))
    where
      by : (o : Option ℕ) → Least (orphan (r ∷ rs)) (length (r ∷ rs)) o → Grounds (r ∷ rs) ls (stage_after (option_map Orphan o) Sealed)
      by None least = tt
      by (Some l) (some, within, is, least) = and_from (ltb 0 l) _ (lt-ltb 0 l some) (and_from (leb l (length (r ∷ rs))) _ (le-leb l _ within) is)

  -- a search rests on what it placed alone
  search_grounds : (rs : List Record) (ls : List Line) (v : Option Verdict) → BySearch v → Grounds rs ls (stage_after v Sealed)
  search_grounds rs ls None by = tt
  search_grounds rs ls (Some Order) by = tt
  search_grounds rs ls (Some Exhausted) by = tt
  search_grounds rs ls (Some Opposed) by = absurd by
  search_grounds rs ls (Some (Orphan l)) by = absurd by

  pub good_opened : (p : ℕ) → opens p ≡ true → Good S (opened p)
  good_opened p ok = record { opens = ok; lawful = refl; reasons = refl; pairs = refl; stands = (refl, refl); grounds = tt }

  module _ (s : State) (h : Good S s) where
    stands_at : (g : Stage) → s.stage ≡ g → Stands (run_of S s.records) g s.standing s.total
    stands_at g is = subst (λ x. Stands (run_of S s.records) x s.standing s.total) is h.stands

    pub good_claims : StateClaims S s
    good_claims = at s.stage h.stands
      where
        at : (g : Stage) → Stands (run_of S s.records) g s.standing s.total → Claims (run_of S s.records) s.standing.placed (verdict_at g)
        at Open stands = tt
        at Sealed stands = tt
        at (Decided v) claims = claims

    good_open : (p : ℕ) → Good S (opening s p).state
    good_open p = by (opens p) refl
      where
        by : (b : Bool) → opens p ≡ b → Good S (open_if b s p).state
        by true ok = good_opened p ok
        by false ok = h

    -- an open case with one lawful record more
    pub good_record : s.stage ≡ Open → (e : Entry) (r : Record) → judgement s.processors s.records e ≡ Ok r → Good S (with_record s r)
    good_record stage e r is =
        let longer : length (s.records ++ r ∷ []) ≡ length s.records + 1 = length-append s.records (r ∷ []) in
        record {
          opens = h.opens;
          lawful = admits_more s.processors s.records e r h.lawful is;
          reasons = founded_stays S s.records (r ∷ []) s.lines h.reasons;
          pairs = paired_more (length s.records) (length (s.records ++ r ∷ [])) (omega (arith, longer)) s.lines h.pairs;
          stands = rw stage (stands_at Open stage);
          grounds = rw stage tt;
        }

    good_admit : (e : Entry) → Good S (admitting s e).state
    good_admit e = at s.stage refl
      where
        by : s.stage ≡ Open → (j : Result Record Refusal) → judgement s.processors s.records e ≡ j → Good S (admit_by j s).state
        by stage (Err r) is = h
        by stage (Ok r) is = good_record stage e r is

        at : (g : Stage) → s.stage ≡ g → Good S (admit_if (permits g Admit) s e).state
        at Open is = by is (judgement s.processors s.records e) refl
        at Sealed is = h
        at (Decided v) is = h

    -- lines that were listed in an undecided case, and the stage to which they lead
    good_lines : verdict_at s.stage ≡ None → (k : ℕ) (l : Listing) → Lists (run_of S s.records) k s.lines l → Good S (with_lines s l)
    good_lines undecided k l is = record { opens = h.opens; lawful = h.lawful; reasons = still; pairs = lists_paired is (length s.records) (omega arith) h.pairs; stands = by l.opposed refl; grounds = rests l.opposed refl s.stage undecided }
      where
        still : founded (run_of S s.records) [] l.lines ≡ true
        still = lists_founded is h.reasons

        last : l.opposed ≡ true → last_opposed l.lines ≡ true
        last e = let (front, x, ends, opposed) = lists_last is e in ap last_opposed ends ∙ last_opposed_end front x ∙ opposed

        rests : (b : Bool) → l.opposed ≡ b → (g : Stage) → verdict_at g ≡ None → Grounds s.records l.lines (stage_listed b g)
        rests true e g none = last e
        rests false e Open none = tt
        rests false e Sealed none = tt
        rests false e (Decided v) none = absurd (cc none)

        by : (b : Bool) → l.opposed ≡ b → Stands (run_of S s.records) (stage_listed b s.stage) s.standing s.total
        by true e = let (a, b, ab, ba) = two_opposed l.lines (last e) in opposed_none S s.processors s.records h.lawful l.lines still a b ab ba
        by false e = h.stands

    pub good_infer : (k : ℕ) → Good S (inferring S s k).state
    good_infer k = at s.stage refl
      where
        R : Run
        R = run_of S s.records

        at : (g : Stage) → s.stage ≡ g → Good S (infer_if (permits g Infer) (list_lines R k s.lines) s).state
        at Open is = good_lines (ap verdict_at is) k (list_lines R k s.lines) (lists R k s.lines)
        at Sealed is = good_lines (ap verdict_at is) k (list_lines R k s.lines) (lists R k s.lines)
        at (Decided v) is = h

    pub good_sealed : s.stage ≡ Open → Good S (sealed s)
    good_sealed stage =
        let none = stands_at Open stage in
        record { opens = h.opens; lawful = h.lawful; reasons = h.reasons; pairs = h.pairs; stands = rw none.0 (rw none.1 (first_stands s.records)); grounds = first_grounds s.records s.lines }

    good_seal : Good S (sealing s).state
    good_seal = at s.stage refl
      where
        at : (g : Stage) → s.stage ≡ g → Good S (seal_if (permits g Seal) s).state
        at Open is = good_sealed is
        at Sealed is = h
        at (Decided v) is = h

    module _ (law : LawfulClock S.earlier) where
      -- steps made in a sealed case, and the stage to which they lead
      good_steps : s.stage ≡ Sealed → (k : ℕ) → let w = walk (run_of S s.records) s.lines k s.standing in Stands (run_of S s.records) (stage_after w.verdict s.stage) w.standing (s.total + w.count)
      good_steps stage k =
          let R : Run = run_of S s.records in
          let w : Walk = walk R s.lines k s.standing in
          let holds = lines_hold S s.processors s.records h.lawful s.lines h.reasons in
          let led = underway_walk R s.lines (irreflexive S law s.processors s.records h.lawful) holds k s.standing s.total (stands_at Sealed stage) in
          rw stage (led_stands R w.verdict w.standing (s.total + w.count) led)

      pub good_search : (k : ℕ) → Good S (searching S s k).state
      good_search k = at s.stage refl
        where
          w : Walk
          w = walk (run_of S s.records) s.lines k s.standing

          by : s.stage ≡ Sealed → (b : Bool) → Good S (search_within b w s).state
          by stage true = h
          by stage false = record {
            opens = h.opens;
            lawful = h.lawful;
            reasons = h.reasons;
            pairs = h.pairs;
            stands = good_steps stage k;
            grounds = rw stage (search_grounds s.records s.lines w.verdict (steps_by_search (steps_is (run_of S s.records) s.lines k s.standing)));
          }

          at : (g : Stage) → s.stage ≡ g → Good S (search_if (permits g Search) k w s).state
          at Open is = h
          at Sealed is = by is (ltb most_steps (s.total + k))
          at (Decided v) is = h

      pub good_call : (c : Invocation) → Good S (after_call S s c)
      good_call (begin p) = good_open p
      good_call (admit e) = good_admit e
      good_call (infer k) = good_infer k
      good_call seal = good_seal
      good_call (search_on k) = good_search k
      good_call (write_run out) = h
      good_call (write_slip out) = h
      good_call (write_paper out) = h

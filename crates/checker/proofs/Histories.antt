-- After every history of calls a case is sound, and decided once enough steps were asked for. Assumes nothing.
use Rattle.std.proofs.Common.{◌≡◌, ℕ, zero, suc, ◌+◌, ◌*◌, ◌<◌, ◌≤◌, Bool, true, false, List, [], ◌∷◌, ◌++◌, length, Some, None, Ok, Err, Option, Result, sym, refl, ap, ◌∙◌, subst, arith, ltb}
use Rattle.memory.specs.declared.records.Entry.{Entry}
use Rattle.memory.specs.declared.records.Record.{Record}
use Rattle.memory.specs.declared.refusals.Refusal.{Refusal}
use Rattle.memory.specs.declared.verdicts.Verdict.{Verdict}
use Rattle.memory.specs.Clocks.{LawfulClock}
use Rattle.memory.specs.Admission.{opens, judgement}
use Rattle.memory.specs.Limits.{most_steps}
use Rattle.memory.specs.Runs.{Setting, Run, run_of}
use Rattle.memory.proofs.Admitted.{judged, admits_join}
use Rattle.inference.specs.Listing.{Listing, list_lines}
use Rattle.inference.proofs.Pairs.{few_lines}
use Rattle.inference.proofs.Sound.{founded_stays, lines_hold}
use Rattle.search.specs.Placing.{Standing}
use Rattle.search.specs.Steps.{Walk, walk, F}
use Rattle.search.proofs.Steps.{steps_is, steps_end}
use Rattle.search.proofs.Underway.{underway_bound}
use Rattle.stages.specs.declared.Call.TheVariants.{Admit, Infer, Seal, Search}
use Rattle.stages.specs.declared.Stage.{Stage}
use Rattle.stages.specs.declared.Stage.TheVariants.{Open, Sealed, Decided}
use Rattle.stages.specs.Stages.{permits, stage_after, verdict_at}
use Rattle.case.specs.State.{State, opened}
use Rattle.case.specs.Calls.{opening, open_if, admit_by, admit_if, admitting, stage_listed, with_lines, infer_if, inferring, seal_if, sealing, search_within, search_if, searching}
use Rattle.referee.proofs.Truth.{ruling_sound}
use Rattle.checker.specs.History.{Invocation, begin, admit, infer, seal, search_on, write_run, write_slip, write_paper, after_call, after, Reckoning, from_opening, begun, record_in, added, searched, reckoned_by, reckoned}
use Rattle.checker.specs.Promise.{SoundDecidedInTimeAndAccepted, AfterEveryHistory, VerdictsAndPapersAreTrue}
use Rattle.checker.proofs.Accepted.{good_accepted}
use Rattle.checker.proofs.Good.{Stands, Good, good_opened, good_claims, good_call}

good_after : (S : Setting) → LawfulClock S.earlier → (s : State) → Good S s → (calls : List Invocation) → Good S (after S s calls)
good_after S law s h [] = h
good_after S law s h (c ∷ calls) = good_after S law (after_call S s c) (good_call S s h law c) calls

-- undecided only where all the steps that were asked for were made
abbrev AllMade : Stage → ℕ → ℕ → Type 0
AllMade g asked made = verdict_at g ≡ None → asked ≡ made

-- the case is as the caller reckons
record Holding (s : State) (a : Reckoning) : Type 0 where
  processors : s.processors ≡ a.processors
  records : s.records ≡ a.records
  total : s.total ≡ a.answered
  made : AllMade s.stage a.asked s.total

opened_holds : (p : ℕ) → Holding (opened p) (from_opening p)
opened_holds p = record { processors = refl; records = refl; total = refl; made = λ none. refl }

module _ (S : Setting) (s : State) (a : Reckoning) (h : Holding s a) where
  open_holds : (p : ℕ) → Holding (opening s p).state (begun a p (opening s p).answer)
  open_holds p = by (opens p)
    where
      by : (b : Bool) → Holding (open_if b s p).state (begun a p (open_if b s p).answer)
      by true = opened_holds p
      by false = h

  admit_holds : (e : Entry) → Holding (admitting s e).state (added a e (admitting s e).answer)
  admit_holds e = at s.stage
    where
      by : (j : Result Record Refusal) → judgement s.processors s.records e ≡ j → Holding (admit_by j s).state (added a e (admit_by j s).answer)
      by (Err r) is = h
      by (Ok r) is =
          let t = judged s.processors s.records e r is in
          let one : r ∷ [] ≡ record_in e _ = sym (ap (record_in e) t.1.kind ∙ ap (λ x. x ∷ []) t.1.is) in
          record { processors = h.processors; records = λ i. h.records i ++ one i; total = h.total; made = h.made }

      at : (g : Stage) → Holding (admit_if (permits g Admit) s e).state (added a e (admit_if (permits g Admit) s e).answer)
      at Open = by (judgement s.processors s.records e) refl
      at Sealed = h
      at (Decided v) = h

  infer_holds : (k : ℕ) → Holding (inferring S s k).state a
  infer_holds k = at s.stage
    where
      l : Listing
      l = list_lines (run_of S s.records) k s.lines

      made : (b : Bool) → AllMade (stage_listed b s.stage) a.asked s.total
      made true none = absurd (cc none)
      made false none = h.made none

      listed : Holding (with_lines s l) a
      listed = record { processors = h.processors; records = h.records; total = h.total; made = made l.opposed }

      at : (g : Stage) → Holding (infer_if (permits g Infer) l s).state a
      at Open = listed
      at Sealed = listed
      at (Decided v) = h

  seal_holds : Holding (sealing s).state a
  seal_holds = at s.stage refl
    where
      at : (g : Stage) → s.stage ≡ g → Holding (seal_if (permits g Seal) s).state a
      at Open is = record { processors = h.processors; records = h.records; total = h.total; made = λ none. h.made (ap verdict_at is) }
      at Sealed is = h
      at (Decided v) is = h

  search_holds : (k : ℕ) → Holding (searching S s k).state (searched a k (searching S s k).answer)
  search_holds k = at s.stage
    where
      w : Walk
      w = walk (run_of S s.records) s.lines k s.standing

      made : (v : Option Verdict) → (v ≡ None → w.count ≡ k) → AllMade (stage_after v s.stage) (a.asked + k) (s.total + w.count)
      made None ends none = omega (arith, h.made none, ends refl)
      made (Some v) ends none = absurd (cc none)

      by : (b : Bool) → Holding (search_within b w s).state (searched a k (search_within b w s).answer)
      by true = h
      by false = record { processors = h.processors; records = h.records; total = ap (λ n. n + w.count) h.total; made = made w.verdict (steps_end (steps_is (run_of S s.records) s.lines k s.standing)) }

      at : (g : Stage) → Holding (search_if (permits g Search) k w s).state (searched a k (search_if (permits g Search) k w s).answer)
      at Open = h
      at Sealed = by (ltb most_steps (s.total + k))
      at (Decided v) = h

  call_holds : (c : Invocation) → Holding (after_call S s c) (reckoned_by S s a c)
  call_holds (begin p) = open_holds p
  call_holds (admit e) = admit_holds e
  call_holds (infer k) = infer_holds k
  call_holds seal = seal_holds
  call_holds (search_on k) = search_holds k
  call_holds (write_run out) = h
  call_holds (write_slip out) = h
  call_holds (write_paper out) = h

after_holds : (S : Setting) (s : State) (a : Reckoning) → Holding s a → (calls : List Invocation) → Holding (after S s calls) (reckoned S s a calls)
after_holds S s a h [] = h
after_holds S s a h (c ∷ calls) = after_holds S (after_call S s c) (reckoned_by S s a c) (call_holds S s a h c) calls

some_steps : (n : ℕ) → 0 < F n
some_steps zero = omega arith
some_steps (suc n) = omega arith

-- with as many steps made as were asked for, these are too few unless the case is decided
decides : (R : Run) (g : Stage) (t : Standing) (made asked : ℕ) → Stands R g t made → AllMade g asked made → 2 * F R.size ≤ asked → (v : Verdict) × (g ≡ Decided v)
decides R Open t made asked (begun, none) all enough = absurd (omega (arith, none, all refl, enough, some_steps R.size))
decides R Sealed t made asked underway all enough = absurd (omega (arith, underway_bound R t made underway, all refl, enough))
decides R (Decided v) t made asked claims all enough = (v, refl)

-- a good case is sound and decided
sound_decided_in_time_and_accepted : (S : Setting) (s : State) → Good S s → (asked : ℕ) → AllMade s.stage asked s.total → SoundDecidedInTimeAndAccepted S s (record { processors = s.processors; records = s.records; asked = asked; answered = s.total })
sound_decided_in_time_and_accepted S s good asked made = record {
  processors = refl;
  records = refl;
  lines = λ more goes_on order legal.
      lines_hold S s.processors (s.records ++ more) (admits_join s.processors [] s.records more good.lawful goes_on) s.lines (founded_stays S s.records more s.lines good.reasons) order legal;
  few = few_lines (length s.records) s.lines good.pairs;
  verdict = good_claims S s good;
  decided = decides (run_of S s.records) s.stage s.standing s.total asked good.stands made;
  total = refl;
  accepted = good_accepted S s good;
}

after_every_history : (S : Setting) → LawfulClock S.earlier → AfterEveryHistory S
after_every_history S law before p ok calls =
    let s = after S (opened p) calls in
    let a = reckoned S (opened p) (from_opening p) calls in
    let held = after_holds S (opened p) (from_opening p) (opened_holds p) calls in
    let good = sound_decided_in_time_and_accepted S s (good_after S law (opened p) (good_opened S p ok) calls) a.asked held.made in
    subst (λ b. let t = (open_if b before p).state in SoundDecidedInTimeAndAccepted S (after S t calls) (reckoned S t (from_opening p) calls)) (sym ok)
    (subst (SoundDecidedInTimeAndAccepted S s) (λ i. record { processors = held.processors i; records = held.records i; asked = a.asked; answered = held.total i }) good)

pub promise : (S : Setting) → LawfulClock S.earlier → VerdictsAndPapersAreTrue S
promise S law = record { histories = after_every_history S law; referee = λ record_places line_places run paper. (ruling_sound S record_places line_places run paper).truth }

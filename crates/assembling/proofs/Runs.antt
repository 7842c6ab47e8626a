-- Texts and their runs. Assumes nothing.
use Rattle.std.proofs.Common.{◌≡◌, ℕ, ◌+◌, Bool, true, false, cond, List, [], ◌∷◌, ◌++◌, length, map, is_ok, Ok, Err, Option, Result, refl, sym, ap, ◌∙◌, subst, append_assoc, append-nil, eqb}
use Rattle.std.specs.List.{All}
use Rattle.std.proofs.lemmas.Bool.{and_parts}
use Rattle.std.proofs.lemmas.List.Elements.{All-head, All-tail}
use Rattle.memory.specs.declared.records.Record.{Record}
use Rattle.memory.specs.declared.refusals.Refusal.{Refusal}
use Rattle.memory.specs.declared.verdicts.Verdict.{Verdict}
use Rattle.memory.specs.Admission.{opens, logged, judgement, admits, sized}
use Rattle.memory.proofs.Admitted.{admits_more, sized_more, logged_back, admits_again}
use Rattle.memory.proofs.Lawful.{lawful_all}
use Rattle.wire.specs.Bytes.{run_bytes}
use Rattle.case.specs.State.{State, opened, holding}
use Rattle.case.specs.Loading.{loading, Reloads}
use Rattle.case.proofs.Reload.{reloads}
use Rattle.judging.specs.Marked.{marked, marked_by}
use Rattle.logs.specs.declared.heads.Head.{Head}
use Rattle.logs.specs.declared.heads.NamedModel.{NamedModel}
use Rattle.logs.specs.declared.heads.NamedModel.TheVariants.{Sc, Godson}
use Rattle.logs.specs.declared.heads.NamedClock.{NamedClock}
use Rattle.logs.specs.declared.heads.NamedClock.TheVariants.{Global, NoClock}
use Rattle.logs.specs.declared.reading.Access.{Access}
use Rattle.logs.specs.Heads.{model_mark, clock_mark}
use Rattle.logs.specs.Printing.{entry_of, on_lines, printed, ReadsBack}
use Rattle.logs.specs.Reading.{Said, log_of}
use Rattle.logs.specs.Sayable.{Sayable}
use Rattle.assembling.specs.Assembly.{admitted_on, admitted, assembled}
use Rattle.assembling.specs.Disassembly.{head_of, text_of, disassembled}
use Rattle.assembling.specs.RoundTrips.{IsRunOf}

-- what accesses became behind other records of a run of p processors
record Became (p : ℕ) (rs : List Record) (accesses : List Access) (all : List Record) : Type 0 where
  more : List Record
  is : all ≡ rs ++ more
  same : map logged more ≡ map (λ a. a.entry) accesses
  lawful : admits p [] all ≡ true
  fits : sized all ≡ true

became : (p : ℕ) (rs : List Record) (accesses : List Access) (all : List Record) → admits p [] rs ≡ true → sized rs ≡ true → All (λ a. Sayable a.entry) accesses → admitted p rs accesses ≡ Ok all → Became p rs accesses all
unfolding admitted
became p rs [] all lawful fits sayable is =
    let e : rs ≡ all = cc in
    record { more = []; is = sym e ∙ sym (append-nil rs); same = refl; lawful = subst (λ xs. admits p [] xs ≡ true) e lawful; fits = subst (λ xs. sized xs ≡ true) e fits }
became p rs (a ∷ accesses) all lawful fits sayable is =
    by (λ r lawful fits is. became p (rs ++ r ∷ []) accesses all lawful fits (All-tail (λ a. Sayable a.entry) a accesses sayable) is) (judgement p rs a.entry) refl is
  where
    Rest : Record → Type 0
    Rest r = admits p [] (rs ++ r ∷ []) ≡ true → sized (rs ++ r ∷ []) ≡ true → admitted p (rs ++ r ∷ []) accesses ≡ Ok all → Became p (rs ++ r ∷ []) accesses all

    by : ((r : Record) → Rest r) → (j : Result Record Refusal) → judgement p rs a.entry ≡ j → admitted_on j (length rs) a.line (λ r. admitted p (rs ++ r ∷ []) accesses) ≡ Ok all → Became p rs (a ∷ accesses) all
    by rest (Err f) j is = absurd (cc is)
    by rest (Ok r) j is =
        let says = All-head (λ a. Sayable a.entry) a accesses sayable in
        let b = rest r (admits_more p rs a.entry r lawful j) (sized_more p rs a.entry r fits j says.address says.value) is in
        record {
          more = r ∷ b.more;
          is = b.is ∙ append_assoc rs (r ∷ []) b.more;
          same = let first = logged_back p rs a.entry r j in let others = b.same in (λ i. first i ∷ others i);
          lawful = b.lawful;
          fits = b.fits;
        }

-- lawful records, read back from a text, become themselves
themselves : (p n : ℕ) (rs more : List Record) → admits p rs more ≡ true → admitted p rs (on_lines n (map entry_of more)) ≡ Ok (rs ++ more)
unfolding admitted
themselves p n rs [] lawful = ap Ok (sym (append-nil rs))
themselves p n rs (r ∷ more) lawful =
    let both = and_parts (is_ok (judgement p rs (logged r))) (admits p (rs ++ r ∷ []) more) lawful in
    ap (λ j. admitted_on j (length rs) n (λ r. admitted p (rs ++ r ∷ []) (on_lines (n + 1) (map entry_of more)))) (admits_again p rs r both.0)
    ∙ themselves p (n + 1) (rs ++ r ∷ []) more both.1
    ∙ ap Ok (append_assoc rs (r ∷ []) more)

-- a text that reads as a head and lawful records is assembled to their bytes
pub assembled_back : (h : Head) (rs : List Record) → opens h.processors ≡ true → admits h.processors [] rs ≡ true → ReadsBack h rs → assembled (printed h rs) ≡ Ok (run_bytes h.processors (model_mark h.model) (clock_mark h.clock) rs)
assembled_back h rs ok lawful back = rw (back, ok, themselves h.processors 4 [] rs lawful) refl

-- a run marks the model and the clock of its head
module _ (p : ℕ) (rs : List Record) where
  bytes_under : Head → List ℕ
  bytes_under h = run_bytes p (model_mark h.model) (clock_mark h.clock) rs

  marks_of : (m : NamedModel) (k : NamedClock) → let run = run_bytes p (model_mark m) (clock_mark k) rs in ((marked run).model_mark ≡ model_mark m) × ((marked run).clock_mark ≡ clock_mark k) × (head_of run p ≡ record { model = m; clock = k; processors = p })
  marks_of Sc Global = (refl, refl, refl)
  marks_of Sc NoClock = (refl, refl, refl)
  marks_of Godson Global = (refl, refl, refl)
  marks_of Godson NoClock = (refl, refl, refl)

-- and the head of a run's log has the marks of the run
pub head_marks : (run : List ℕ) (p : ℕ) → (model_mark (head_of run p).model ≡ (marked run).model_mark) × (clock_mark (head_of run p).clock ≡ (marked run).clock_mark)
head_marks run p = by (eqb (get 4) 3) (eqb (get 5) 3)
  where
    get : ℕ → ℕ
    get i = Rattle.std.specs.Prelude.slice_index run i

    by : (a b : Bool) → (model_mark (cond a Godson Sc) ≡ (marked_by a b).model_mark) × (clock_mark (cond b NoClock Global) ≡ (marked_by a b).clock_mark)
    by true true = (refl, refl)
    by true false = (refl, refl)
    by false true = (refl, refl)
    by false false = (refl, refl)

-- a run that loads is disassembled to what it loads as
loaded_text : (run : List ℕ) (p : ℕ) (rs : List Record) (v : Option Verdict) → let S = marked run in let o = loading S.model_mark S.clock_mark (opened 1) run in o.answer ≡ Ok v → o.state.processors ≡ p → o.state.records ≡ rs → disassembled run ≡ Ok (printed (head_of run p) rs)
loaded_text run p rs v is processors records =
    let S = marked run in
    let s : State = (loading S.model_mark S.clock_mark (opened 1) run).state in
    ap (λ a. text_of run a s) is ∙ (λ i. Ok (printed (head_of run (processors i)) (records i)))

-- the records that accesses became are the run of their text
module _ (text : List ℕ) (said : Said) (rs : List Record) (reads : log_of text ≡ Ok said) (ok : opens said.head.processors ≡ true) (sayable : All (λ a. Sayable a.entry) said.accesses) (is : admitted said.head.processors [] said.accesses ≡ Ok rs) where
  abbrev pub run : List ℕ
  run = run_bytes said.head.processors (model_mark said.head.model) (clock_mark said.head.clock) rs

  those : Became said.head.processors [] said.accesses rs
  those = became said.head.processors [] said.accesses rs refl refl sayable is

  same : map logged rs ≡ map (λ a. a.entry) said.accesses
  same = ap (map logged) those.is ∙ those.same

  loads : (before : State) → Reloads (marked run).model_mark (marked run).clock_mark before (holding said.head.processors rs) run
  loads before =
      let marks = marks_of said.head.processors rs said.head.model said.head.clock in
      rw (marks.0, marks.1) (reloads (model_mark said.head.model) (clock_mark said.head.clock) before (holding said.head.processors rs) ok those.lawful those.fits)

  abbrev pub Back : Type 0
  Back = (records : List Record) → map entry_of records ≡ map (λ a. a.entry) said.accesses → log_of (printed said.head records) ≡ Ok (record { head = said.head; accesses = on_lines 4 (map (λ a. a.entry) said.accesses) })

  pub is_run : Back → IsRunOf text run
  is_run back =
      let marks = marks_of said.head.processors rs said.head.model said.head.clock in
      let reload = loads (opened 1) in
      record {
        said = said;
        reads = reads;
        records = rs;
        same = same;
        lawful = lawful_all said.head.processors rs those.lawful;
        bytes = refl;
        model = marks.0;
        clock = marks.1;
        loads = loads;
        back = loaded_text run said.head.processors rs _ reload.answer reload.processors reload.records ∙ ap (λ h. Ok (printed h rs)) marks.2;
        again = assembled_back said.head rs ok those.lawful (back rs same ∙ ap (λ es. Ok (record { head = said.head; accesses = on_lines 4 es })) (sym same));
      }

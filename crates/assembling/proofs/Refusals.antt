-- Why a text is refused. Assumes nothing.
use Rattle.std.proofs.Common.{◌≡◌, ℕ, Bool, true, false, cond, List, [], ◌∷◌, ◌++◌, length, map, Ok, Err, Result, refl, sym, ap, ◌∙◌, subst, append_assoc, append-nil, inl, inr}
use Rattle.memory.specs.declared.records.Record.{Record}
use Rattle.memory.specs.declared.refusals.Refusal.{Refusal}
use Rattle.memory.specs.declared.refusals.Refusal.TheVariants as refuse
use Rattle.memory.specs.Admission.{opens, logged, judgement, admits}
use Rattle.memory.proofs.Admitted.{admits_more, logged_back}
use Rattle.memory.proofs.Admissible.{breaks}
use Rattle.memory.proofs.Lawful.{lawful_all}
use Rattle.logs.specs.declared.reading.Access.{Access}
use Rattle.logs.specs.declared.troubles.BadLine.{BadLine}
use Rattle.logs.specs.Reading.{Said, log_of, lines_of, said_by}
use Rattle.logs.proofs.FirstBad.{first_bad}
use Rattle.assembling.specs.declared.troubles.BadLog.{BadLog}
use Rattle.assembling.specs.declared.troubles.BadLog.TheVariants as bad
use Rattle.assembling.specs.declared.troubles.Unassembled.{Unassembled}
use Rattle.assembling.specs.declared.troubles.Unassembled.TheVariants.{Log, OutOfMemory}
use Rattle.assembling.specs.Assembly.{refused_behind, admitted_on, admitted, strange_line, run_of, assembled_of, assembled, IsRefusal}
use Rattle.assembling.specs.RoundTrips.{Explains}
use Rattle.assembling.proofs.StrangeNumbers.{strange_there}

-- where admission stopped behind other records of a run of p processors
record Stopped (p : ℕ) (rs : List Record) (accesses : List Access) (b : BadLog) : Type 0 where
  before : List Access
  access : Access
  after : List Access
  parts : accesses ≡ before ++ access ∷ after
  more : List Record
  same : map logged more ≡ map (λ a. a.entry) before
  lawful : admits p [] (rs ++ more) ≡ true
  refusal : Refusal
  refused : judgement p (rs ++ more) access.entry ≡ Err refusal
  told : b ≡ refused_behind (length (rs ++ more)) access.line refusal

stopped : (p : ℕ) (rs : List Record) (accesses : List Access) (b : BadLog) → admits p [] rs ≡ true → admitted p rs accesses ≡ Err b → Stopped p rs accesses b
unfolding admitted
stopped p rs [] b lawful is = absurd (cc is)
stopped p rs (a ∷ accesses) b lawful is = by (λ r. stopped p (rs ++ r ∷ []) accesses b) (judgement p rs a.entry) refl is
  where
    by : ((r : Record) → admits p [] (rs ++ r ∷ []) ≡ true → admitted p (rs ++ r ∷ []) accesses ≡ Err b → Stopped p (rs ++ r ∷ []) accesses b) → (j : Result Record Refusal) → judgement p rs a.entry ≡ j → admitted_on j (length rs) a.line (λ r. admitted p (rs ++ r ∷ []) accesses) ≡ Err b → Stopped p rs (a ∷ accesses) b
    by rest (Err f) j is =
        let none = sym (append-nil rs) in
        let told : refused_behind (length rs) a.line f ≡ b = cc is in
        record {
          before = [];
          access = a;
          after = accesses;
          parts = refl;
          more = [];
          same = refl;
          lawful = subst (λ xs. admits p [] xs ≡ true) none lawful;
          refusal = f;
          refused = subst (λ xs. judgement p xs a.entry ≡ Err f) none j;
          told = subst (λ xs. b ≡ refused_behind (length xs) a.line f) none (sym told);
        }
    by rest (Ok r) j is =
        let s = rest r (admits_more p rs a.entry r lawful j) is in
        let all = append_assoc rs (r ∷ []) s.more in
        record {
          before = a ∷ s.before;
          access = s.access;
          after = s.after;
          parts = ap (λ xs. a ∷ xs) s.parts;
          more = r ∷ s.more;
          same = let first = logged_back p rs a.entry r j in let others = s.same in (λ i. first i ∷ others i);
          lawful = subst (λ xs. admits p [] xs ≡ true) all s.lawful;
          refusal = s.refusal;
          refused = subst (λ xs. judgement p xs s.access.entry ≡ Err s.refusal) all s.refused;
          told = subst (λ xs. b ≡ refused_behind (length xs) s.access.line s.refusal) all s.told;
        }

first_refused : (text : List ℕ) (said : Said) → log_of text ≡ Ok said → (b : BadLog) → admitted said.head.processors [] said.accesses ≡ Err b → Explains text (Log b)
first_refused text said reads b is =
    let s = stopped said.head.processors [] said.accesses b refl is in
    subst (λ b. Explains text (Log b)) (sym s.told) (inr (record {
      said = said;
      reads = reads;
      before = s.before;
      access = s.access;
      after = s.after;
      accesses = s.parts;
      records = s.more;
      same = s.same;
      lawful = lawful_all said.head.processors s.more s.lawful;
      breaks = breaks said.head.processors s.more s.access.entry (Err s.refusal) s.refused;
      refusal = s.refused;
      layer = refl;
      place = refl;
      line = refl;
    }))

log_said : (text : List ℕ) (x : BadLine) → log_of text ≡ Err x → said_by (lines_of text) ≡ Err x
unfolding log_of
log_said text x reads = reads

-- what is wrong with a text, where it is refused
wrong : (text : List ℕ) (b : BadLog) → assembled text ≡ Err b → Explains text (Log b)
wrong text b = by (log_of text) refl
  where
    records : (said : Said) → log_of text ≡ Ok said → (r : Result (List Record) BadLog) → admitted said.head.processors [] said.accesses ≡ r → run_of said.head r ≡ Err b → Explains text (Log b)
    records said reads (Ok rs) is ran = absurd (cc ran)
    records said reads (Err x) is ran = let e : x ≡ b = cc ran in first_refused text said reads b (is ∙ ap Err e)

    number : (said : Said) → log_of text ≡ Ok said → (ok : Bool) → opens said.head.processors ≡ ok → cond ok (run_of said.head (admitted said.head.processors [] said.accesses)) (Err (refused_behind 0 (strange_line 1 (lines_of text)) refuse.Stranger)) ≡ Err b → Explains text (Log b)
    number said reads true ok is = records said reads (admitted said.head.processors [] said.accesses) refl is
    number said reads false ok is =
        let e : refused_behind 0 (strange_line 1 (lines_of text)) refuse.Stranger ≡ b = cc is in
        subst (λ b. Explains text (Log b)) e (inl (record { said = said; reads = reads; number = ok; line = strange_there text said reads ok; refusal = refl; layer = refl; place = refl }))

    by : (r : Result Said BadLine) → log_of text ≡ r → assembled_of text r ≡ Err b → Explains text (Log b)
    by (Ok said) reads is = number said reads (opens said.head.processors) refl is
    by (Err x) reads is = let e : bad.Line x ≡ b = cc is in subst (λ b. Explains text (Log b)) e (reads, first_bad (lines_of text) x (log_said text x reads))

pub explained : (text : List ℕ) (e : Unassembled) → IsRefusal (assembled text) e → Explains text e
explained text (Log b) is = wrong text b is
explained text OutOfMemory is = tt

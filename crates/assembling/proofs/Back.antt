-- The log of a run is assembled to the same run. Assumes nothing.
use Rattle.std.proofs.Common.{◌≡◌, ℕ, Bool, true, false, ◌&&◌, eqb, leb, not, List, [], ◌∷◌, ◌++◌, is_ok, Ok, refl, ap, ◌∙◌, subst, arith}
use Rattle.std.specs.List.{All}
use Rattle.std.proofs.lemmas.Bool.{and_parts, leb-false, leb-true, eqb-true}
use Rattle.std.proofs.lemmas.List.Elements.{All-cons, All-nil}
use Rattle.memory.specs.declared.kinds.Kind.{Kind}
use Rattle.memory.specs.declared.kinds.Kind.TheVariants.{Load, Store, Fence}
use Rattle.memory.specs.declared.records.Entry.{Entry}
use Rattle.memory.specs.declared.records.Record.{Record}
use Rattle.memory.specs.Admission.{opens, logged, judgement, admits, blank_entry}
use Rattle.memory.specs.Limits.{most_processors}
use Rattle.memory.specs.Runs.{Setting}
use Rattle.memory.proofs.Admitted.{judged, admits_again}
use Rattle.case.specs.State.{State, opened}
use Rattle.case.specs.Loading.{loading}
use Rattle.checker.proofs.Good.{Good, good_opened}
use Rattle.checker.proofs.Loaded.{good_loading}
use Rattle.judging.specs.Marked.{marked}
use Rattle.logs.specs.Printing.{printed, ReadsBack}
use Rattle.logs.specs.Sayable.{IsBlankFence, Printable}
use Rattle.wire.specs.Bytes.{run_bytes}
use Rattle.assembling.specs.declared.disassembly.Contents.{Contents}
use Rattle.assembling.specs.Assembly.{assembled}
use Rattle.assembling.specs.Disassembly.{head_of, Read}
use Rattle.assembling.proofs.Runs.{assembled_back, head_marks}

unless : (b : Bool) → not b ≡ false → b ≡ true
unless true is = refl
unless false is = absurd (cc is)

-- a fence that was admitted has neither address nor value
bare : (k : Kind) (e : Entry) → blank_entry k e ≡ false → IsBlankFence k e.address e.value
bare Load e filled = tt
bare Store e filled = tt
bare Fence e filled =
    let both = and_parts (eqb e.address 0) (eqb e.value 0) (unless (eqb e.address 0 && eqb e.value 0) filled) in
    (eqb-true e.address 0 both.0, eqb-true e.value 0 both.1)

-- a line says all of a record that was admitted
printable : (p : ℕ) (rs : List Record) (r : Record) → opens p ≡ true → is_ok (judgement p rs (logged r)) ≡ true → Printable r
printable p rs r ok is =
    let j = (judged p rs (logged r) r (admits_again p rs r is)).1 in
    let few = leb-true p most_processors (and_parts (leb 1 p) (leb p most_processors) ok).1 in
    record {
      processor = omega (arith, leb-false p r.processor j.local, few);
      fence = bare r.kind (logged r) (subst (λ k. blank_entry k (logged r) ≡ false) (ap (λ (x : Record). x.kind) j.is) j.filled);
    }

printable_all : (p : ℕ) (rs more : List Record) → opens p ≡ true → admits p rs more ≡ true → All Printable more
printable_all p rs [] ok lawful = All-nil Printable
printable_all p rs (r ∷ more) ok lawful =
    let both = and_parts (is_ok (judgement p rs (logged r))) (admits p (rs ++ r ∷ []) more) lawful in
    All-cons Printable r more (printable p rs r ok both.0) (printable_all p (rs ++ r ∷ []) more ok both.1)

-- what was read of a run, printed, if what is printed reads back
pub read_back : (run : List ℕ) (x : Contents) → Read (marked run) run x → let h = head_of run x.processors in (All Printable x.records.items → ReadsBack h x.records.items) → assembled (printed h x.records.items) ≡ Ok run
read_back run x read back =
    let S : Setting = marked run in
    let s : State = (loading S.model_mark S.clock_mark (opened 1) run).state in
    let good : Good S s = good_loading S S.model_mark S.clock_mark (opened 1) (good_opened S 1 refl) run in
    let p : ℕ = x.processors in
    let rs : List Record = x.records.items in
    let ok : opens p ≡ true = rw read.processors good.opens in
    let lawful : admits p [] rs ≡ true = rw (read.processors, read.records) good.lawful in
    let marks = head_marks run p in
    assembled_back (head_of run p) rs ok lawful (back (printable_all p [] rs ok lawful)) ∙ ap Ok ((λ i. run_bytes p (marks.0 i) (marks.1 i) rs) ∙ read.bytes)

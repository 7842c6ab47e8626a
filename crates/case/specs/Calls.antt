-- What each call on a case answers, and the case after it, for every case and every argument. Assumes nothing.
use Rattle.std.specs.Prelude.{◌≡◌, ℕ, ◌+◌, ◌<◌, ◌≤◌, Bool, true, false, List, [], ◌∷◌, ◌++◌, length, drop, Some, None, Ok, Err, Option, Result, nat_lt}
use Rattle.std.specs.Bool.{then_some}
use Rattle.std.specs.Option.{option_map}
use Rattle.memory.specs.declared.lines.Line.{Line}
use Rattle.memory.specs.declared.records.Entry.{Entry}
use Rattle.memory.specs.declared.records.Record.{Record}
use Rattle.memory.specs.declared.refusals.Fault.{Fault}
use Rattle.memory.specs.declared.refusals.Refusal.{Refusal}
use Rattle.memory.specs.declared.refusals.Refusal.TheVariants as refuse
use Rattle.memory.specs.declared.verdicts.Progress.{Progress}
use Rattle.memory.specs.declared.verdicts.Verdict.{Verdict}
use Rattle.memory.specs.declared.verdicts.Verdict.TheVariants.{Order, Opposed, Orphan, Exhausted}
use Rattle.memory.specs.Admission.{opens, judgement}
use Rattle.memory.specs.Legal.{Claims}
use Rattle.memory.specs.Limits.{most_steps}
use Rattle.memory.specs.Numbers.{verdict_number}
use Rattle.memory.specs.Reading.{first_orphan}
use Rattle.memory.specs.Runs.{Run, Setting, run_of}
use Rattle.inference.specs.Listing.{Listing, Lists, Out, list_lines}
use Rattle.search.specs.Steps.{Walk, Steps, Ends, walk}
use Rattle.search.specs.Views.{walk_to}
use Rattle.wire.specs.Bytes.{run_bytes, slip_bytes, paper_bytes, order_body, lines_body, orphan_body}
use Rattle.stages.specs.declared.Call.TheVariants.{Admit, Infer, Seal, Search}
use Rattle.stages.specs.declared.Stage.{Stage}
use Rattle.stages.specs.declared.Stage.TheVariants.{Sealed}
use Rattle.stages.specs.Stages.{permits, stage_after, verdict_at}
use Rattle.case.specs.State.{State, opened, with_record, with_stage, case_fault}

pub record Outcome (A : Type 0) : Type 0 where
  pub answer : A
  pub state : State

-- a refused call leaves the case as it was
abbrev pub refused : {A : Type 0} → State → Refusal → Outcome (Result A Fault)
refused s r = record { answer = Err (case_fault s r); state = s }

-- Opening begins the case anew, at any stage.
abbrev pub open_if : Bool → State → ℕ → Outcome (Result (Unit {0}) Fault)
open_if true s p = record { answer = Ok tt; state = opened p }
open_if false s p = refused s refuse.Stranger

abbrev pub opening : State → ℕ → Outcome (Result (Unit {0}) Fault)
opening s p = open_if (opens p) s p

-- Admitting answers the number of the record.
abbrev pub admit_by : Result Record Refusal → State → Outcome (Result ℕ Fault)
admit_by (Ok r) s = record { answer = Ok (length s.records + 1); state = with_record s r }
admit_by (Err r) s = refused s r

-- the number that a lawful record gets, or why it is refused
abbrev pub numbered_by : Result Record Refusal → State → Result ℕ Refusal
numbered_by (Ok r) s = Ok (length s.records + 1)
numbered_by (Err r) s = Err r

abbrev pub admit_if : Option Refusal → State → Entry → Outcome (Result ℕ Fault)
admit_if (Some r) s e = refused s r
admit_if None s e = admit_by (judgement s.processors s.records e) s

abbrev pub admitting : State → Entry → Outcome (Result ℕ Fault)
admitting s e = admit_if (permits s.stage Admit) s e

-- Inferring lists next lines. Opposed ones decide the case, open or sealed.
abbrev pub stage_listed : Bool → Stage → Stage
stage_listed opposed g = stage_after (then_some opposed Opposed) g

abbrev pub with_lines : State → Listing → State
with_lines s l = record { processors = s.processors; records = s.records; lines = l.lines; stage = stage_listed l.opposed s.stage; standing = s.standing; total = s.total }

abbrev pub infer_if : Option Refusal → Listing → State → Outcome (Result Progress Fault)
infer_if (Some r) l s = refused s r
infer_if None l s = let t = with_lines s l in record { answer = Ok (record { done = l.count; verdict = verdict_at t.stage }); state = t }

abbrev pub inferring : Setting → State → ℕ → Outcome (Result Progress Fault)
inferring S s k = infer_if (permits s.stage Infer) (list_lines (run_of S s.records) k s.lines) s

-- what inferring k did to a case that was s and is t, in the run R of its records
pub record Inferred (R : Run) (k : ℕ) (s t : State) (p : Progress) : Type 0 where
  pub opposed : Bool
  -- the lines are those before and then the next lines, as many as it answers
  pub lists : Lists R k s.lines (record { count = p.done; lines = t.lines; opposed = opposed })
  -- the case is decided just where the last of them is opposed to one before it, and the verdict says so
  pub stage : t.stage ≡ stage_listed opposed s.stage
  pub verdict : p.verdict ≡ verdict_at t.stage
  -- otherwise fewer than asked for means that no line with a new pair follows
  pub out : Out R k (record { count = p.done; lines = t.lines; opposed = opposed })

-- Searching makes steps. An order that is found, or a search that is exhausted, decides the case.
abbrev pub with_steps : State → Walk → State
with_steps s w = record { processors = s.processors; records = s.records; lines = s.lines; stage = stage_after w.verdict s.stage; standing = w.standing; total = s.total + w.count }

-- refused where the total and k together are above the most
abbrev pub search_within : Bool → Walk → State → Outcome (Result Progress Fault)
search_within true w s = refused s refuse.Spent
search_within false w s = let t = with_steps s w in record { answer = Ok (record { done = w.count; verdict = verdict_at t.stage }); state = t }

abbrev pub search_if : Option Refusal → ℕ → Walk → State → Outcome (Result Progress Fault)
search_if (Some r) k w s = refused s r
search_if None k w s = search_within (nat_lt most_steps (s.total + k)) w s

abbrev pub searching : Setting → State → ℕ → Outcome (Result Progress Fault)
searching S s k = search_if (permits s.stage Search) k (walk (run_of S s.records) s.lines k s.standing) s

-- what searching k did to a case that was s and is t, in the run R of its records
pub record Searched (R : Run) (k : ℕ) (s t : State) (p : Progress) : Type 0 where
  -- the search goes on from where it stood, by as many steps as it answers
  pub steps : Steps R s.lines k s.standing (walk_to p t.standing)
  -- the case is decided just where the last step decided it
  pub stage : t.stage ≡ stage_after p.verdict s.stage
  -- fewer steps than asked for means decided
  pub ends : Ends k (walk_to p t.standing)
  pub total : t.total ≡ s.total + p.done

-- Sealing decides an empty case by its empty order, and one with an orphan by the smallest.
abbrev pub sealed_verdict : List Record → Option Verdict
sealed_verdict [] = Some Order
sealed_verdict (r ∷ rs) = option_map Orphan (first_orphan (r ∷ rs))

abbrev pub sealed : State → State
sealed s = with_stage s (stage_after (sealed_verdict s.records) Sealed)

abbrev pub seal_if : Option Refusal → State → Outcome (Result (Option Verdict) Fault)
seal_if (Some r) s = refused s r
seal_if None s = record { answer = Ok (sealed_verdict s.records); state = sealed s }

abbrev pub sealing : State → Outcome (Result (Option Verdict) Fault)
sealing s = seal_if (permits s.stage Seal) s

-- what the answer of sealing or loading claims of a run, with the empty order where it is an order; a refusal claims nothing
abbrev pub AnswerClaims : {E : Type 0} → Run → Result (Option Verdict) E → Type 0
AnswerClaims R (Ok v) = Claims R [] v
AnswerClaims R (Err e) = Unit {0}

-- the answer claims nothing false of the records, whatever the setting
abbrev pub AlwaysClaims : {E : Type 0} → List Record → Result (Option Verdict) E → Type 0
AlwaysClaims rs r = (S : Setting) → AnswerClaims (run_of S rs) r

-- Writing a run, a slip and a paper, under the marks of a model and a clock.
abbrev pub run_in : ℕ → ℕ → State → List ℕ
run_in model clock s = run_bytes s.processors model clock s.records

abbrev pub slip_in : State → List ℕ
slip_in s = slip_bytes (verdict_at s.stage) s.total

-- the body of the paper: the placed records where they are an order, or the lines, or the orphan; undecided and exhausted cases have
-- none
abbrev pub body_at : Option Verdict → List Line → List ℕ → Option (List ℕ)
body_at None ls placed = None
body_at (Some Order) ls placed = Some (order_body placed)
body_at (Some Opposed) ls placed = Some (lines_body ls)
body_at (Some (Orphan l)) ls placed = Some (orphan_body l)
body_at (Some Exhausted) ls placed = None

abbrev pub paper_in : ℕ → ℕ → State → Option (List ℕ)
paper_in model clock s =
    let v : Option Verdict = verdict_at s.stage in option_map (paper_bytes (verdict_number v) model clock (length s.records)) (body_at v s.lines s.standing.placed)

-- writing bs into out fills the first bytes and keeps the rest; where they are too few, all are as before
abbrev pub Wrote : State → List ℕ → List ℕ → List ℕ → Result ℕ Fault → Type 0
Wrote s bs out after (Ok n) = (n ≡ length bs) × (length bs ≤ length out) × (after ≡ bs ++ drop (length bs) out)
Wrote s bs out after (Err f) = (length out < length bs) × (f ≡ case_fault s refuse.Short) × (after ≡ out)

abbrev pub WroteSome : State → Option (List ℕ) → List ℕ → List ℕ → Result ℕ Fault → Type 0
WroteSome s None out after r = (r ≡ Err (case_fault s refuse.Bare)) × (after ≡ out)
WroteSome s (Some bs) out after r = Wrote s bs out after r

-- How an example is worked, and what the rows of a table of examples say. Assumes nothing.
use Rattle.std.specs.Prelude.{◌≡◌, ℕ, Bool, true, false, List, map, length, Err, Option, Result}
use Rattle.memory.specs.declared.lines.Line.{Line}
use Rattle.memory.specs.declared.records.Entry.{Entry}
use Rattle.memory.specs.declared.refusals.Fault.{Fault}
use Rattle.memory.specs.declared.refusals.Layer.TheVariants as layer
use Rattle.memory.specs.declared.refusals.Refusal.TheVariants as refuse
use Rattle.memory.specs.declared.verdicts.Verdict.{Verdict}
use Rattle.memory.specs.Limits.{program_steps}
use Rattle.memory.specs.Runs.{Setting}
use Rattle.stages.specs.Stages.{verdict_at}
use Rattle.case.specs.State.{State, opened}
use Rattle.case.specs.Calls.{opening, inferring, sealing, searching, paper_in, WroteSome}
use Rattle.referee.specs.declared.faults.RefereeFault.{RefereeFault}
use Rattle.checker.specs.History.{admit, after}
use Rattle.checker.specs.Output.{to_the_end, answer_to}
use Rattle.judging.specs.Marked.{answer_of}

-- what was logged, on how many processors, and whether lines are inferred before the search
pub record Example : Type 0 where
  pub processors : ℕ
  pub entries : List Entry
  pub inferred : Bool

-- the case with all entries admitted that are not refused
abbrev pub admitted : Setting → Example → State
admitted S x = after S (opening (opened 1) x.processors).state (map admit x.entries)

abbrev pub infer_where : Bool → Setting → State → State
infer_where true S s = (inferring S s to_the_end).state
infer_where false S s = s

-- a new case is opened, the entries are logged, lines are inferred to the end where the example says so, and the case is sealed and searched
abbrev pub worked : Setting → Example → State
worked S x = (searching S (sealing (infer_where x.inferred S (admitted S x))).state program_steps).state

-- worked under the setting, the example has this verdict, these lines, these records placed, and so many steps
abbrev pub Works : Setting → Example → Option Verdict → List Line → List ℕ → ℕ → Type 0
Works S x verdict lines placed steps =
    let s = worked S x in (verdict_at s.stage ≡ verdict) × (s.lines ≡ lines) × (s.standing.placed ≡ placed) × (s.total ≡ steps)

-- so many lent bytes are too few for its paper: they stay as they were, and the place of the fault is this
abbrev pub IsShort : Setting → Example → ℕ → ℕ → Type 0
IsShort S x size place =
    let s = worked S x in (out new : List ℕ) (r : Result ℕ Fault) → length out ≡ size → WroteSome s (paper_in S.model_mark S.clock_mark s) out new r →
    (r ≡ Err (record { refusal = refuse.Short; layer = layer.Content; place = place })) × (new ≡ out)

-- the program writes the second bytes for the first
abbrev pub Writes : List ℕ → List ℕ → Type 0
Writes input output = answer_to input ≡ output

-- so the referee rules on the bytes of a run and of a paper, under the marks of the run
abbrev pub Rules : List ℕ → List ℕ → Result Verdict RefereeFault → Type 0
Rules run paper answer = answer_of run paper ≡ answer

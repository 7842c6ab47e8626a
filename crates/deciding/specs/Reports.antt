-- What comes of the bytes of a run. Assumes nothing.
use Rattle.std.specs.Prelude.{◌≡◌, ℕ, List, Some, None, Ok, Err, Option, Result}
use Rattle.std.specs.Option.{option_map}
use Rattle.memory.specs.declared.refusals.Fault.{Fault}
use Rattle.memory.specs.declared.verdicts.Verdict.{Verdict}
use Rattle.memory.specs.Legal.{Claims}
use Rattle.memory.specs.Runs.{Setting, run_of}
use Rattle.wire.specs.declared.faults.RunFault.{RunFault}
use Rattle.wire.specs.Faults.{run_fault}
use Rattle.stages.specs.Stages.{verdict_at}
use Rattle.case.specs.State.{State, opened}
use Rattle.case.specs.Calls.{inferring, searching, paper_in}
use Rattle.case.specs.Loading.{loading}
use Rattle.checker.specs.Output.{to_the_end}
use Rattle.deciding.specs.declared.Report.{Report}

-- a case inferred to the end, then searched so many steps; where it is decided, either is refused and it stays as it was
abbrev pub decided : Setting → ℕ → State → State
decided S steps s = (searching S (inferring S s to_the_end).state steps).state

-- the case that is reported of: as loading left it where the run is refused
abbrev pub reported : Setting → ℕ → Result (Option Verdict) RunFault → State → State
reported S steps (Ok v) s = decided S steps s
reported S steps (Err f) s = s

-- the verdict at which it then stands, or why the run is refused
abbrev pub ruled : Result (Option Verdict) RunFault → State → Result (Option Verdict) RunFault
ruled (Ok v) s = Ok (verdict_at s.stage)
ruled (Err f) s = Err f

-- the report says of the case what it is
pub record Shows (S : Setting) (s : State) (r : Report) : Type 0 where
  pub model : r.model ≡ S.model_mark
  pub clock : r.clock ≡ S.clock_mark
  pub processors : r.processors ≡ s.processors
  pub records : r.records.items ≡ s.records
  pub lines : r.lines.items ≡ s.lines
  pub placed : r.placed.items ≡ s.standing.placed
  pub steps : r.steps ≡ s.total
  pub paper : option_map (λ v. v.items) r.paper ≡ paper_in S.model_mark S.clock_mark s

-- what the verdict claims of the records is true, where the order is that of the placed ones; a refusal claims nothing
abbrev pub RulingClaims : Setting → Report → Result (Option Verdict) RunFault → Type 0
RulingClaims S r (Ok v) = Claims (run_of S r.records.items) r.placed.items v
RulingClaims S r (Err f) = Unit {0}

-- the report of a run in bytes, read under a setting and searched so many steps
pub record Reports (S : Setting) (bytes : List ℕ) (steps : ℕ) (r : Report) : Type 0 where
  pub shows : let o = loading S.model_mark S.clock_mark (opened 1) bytes in Shows S (reported S steps o.answer o.state) r
  pub ruling : let o = loading S.model_mark S.clock_mark (opened 1) bytes in r.ruling ≡ ruled o.answer (reported S steps o.answer o.state)
  pub claims : RulingClaims S r r.ruling

-- why the run is refused, if it is
abbrev pub refusal_of : Result (Option Verdict) RunFault → Option Fault
refusal_of (Ok v) = None
refusal_of (Err f) = Some (run_fault f)

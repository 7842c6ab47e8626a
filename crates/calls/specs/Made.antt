-- What a call answers, and what it leaves of the case and of the bytes that it is lent. Assumes nothing.
use Rattle.std.specs.Prelude.{◌≡◌, ℕ, List, Ok, Err, Option, Result}
use Rattle.memory.specs.declared.refusals.Fault.{Fault}
use Rattle.memory.specs.declared.verdicts.Verdict.{Verdict}
use Rattle.memory.specs.Runs.{Setting}
use Rattle.wire.specs.declared.faults.RunFault.{RunFault}
use Rattle.wire.specs.Faults.{run_fault}
use Rattle.case.specs.State.{State}
use Rattle.case.specs.Calls.{opening, admitting, inferring, sealing, searching, run_in, slip_in, paper_in, Wrote, WroteSome}
use Rattle.case.specs.Loading.{loading}
use Rattle.histories.specs.declared.invocations.Invocation.{Invocation}
use Rattle.histories.specs.declared.invocations.Invocation.TheVariants as call
use Rattle.calls.specs.declared.made.Answer.{Answer}
use Rattle.calls.specs.declared.made.Answer.TheVariants as answer

-- the case after a call, which may be refused; one that writes leaves it as it was
abbrev pub made : Setting → State → Invocation → State
made S s (call.Open p) = (opening s p).state
made S s (call.Admit e) = (admitting s e).state
made S s (call.Infer k) = (inferring S s k).state
made S s call.Seal = (sealing s).state
made S s (call.Search k) = (searching S s k).state
made S s (call.Load run) = (loading S.model_mark S.clock_mark s run.now).state
made S s (call.WriteRun room) = s
made S s (call.WriteSlip room) = s
made S s (call.WritePaper room) = s

-- what was answered, by the name that it is told by; a refusal stays one
abbrev pub told : {A : Type 0} → (A → Answer) → Result A Fault → Result Answer Fault
told name (Ok x) = Ok (name x)
told name (Err f) = Err f

abbrev pub told_load : Result (Option Verdict) RunFault → Result Answer Fault
told_load (Ok v) = Ok (answer.Closed v)
told_load (Err f) = Err (run_fault f)

-- a call on a case that was s answers this, and leaves the lent bytes so
abbrev pub Answers : Setting → State → Invocation → List ℕ → List ℕ → Result Answer Fault → Type 0
Answers S s (call.Open p) lent after r = (r ≡ told (λ u. answer.Opened) (opening s p).answer) × (after ≡ lent)
Answers S s (call.Admit e) lent after r = (r ≡ told answer.Admitted (admitting s e).answer) × (after ≡ lent)
Answers S s (call.Infer k) lent after r = (r ≡ told answer.Listed (inferring S s k).answer) × (after ≡ lent)
Answers S s call.Seal lent after r = (r ≡ told answer.Closed (sealing s).answer) × (after ≡ lent)
Answers S s (call.Search k) lent after r = (r ≡ told answer.Searched (searching S s k).answer) × (after ≡ lent)
Answers S s (call.Load run) lent after r = (r ≡ told_load (loading S.model_mark S.clock_mark s run.now).answer) × (after ≡ lent)
Answers S s (call.WriteRun room) lent after r = (n : Result ℕ Fault) × (r ≡ told answer.Wrote n) × Wrote s (run_in S.model_mark S.clock_mark s) lent after n
Answers S s (call.WriteSlip room) lent after r = (n : Result ℕ Fault) × (r ≡ told answer.Wrote n) × Wrote s (slip_in s) lent after n
Answers S s (call.WritePaper room) lent after r = (n : Result ℕ Fault) × (r ≡ told answer.Wrote n) × WroteSome s (paper_in S.model_mark S.clock_mark s) lent after n

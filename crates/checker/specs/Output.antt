-- What the program writes for its input. Assumes nothing.
use Rattle.std.specs.Prelude.{ℕ, Bool, true, false, List, [], ◌++◌, take, Ok, Err, Option, unwrap_or, Result, ◌==◌, slice_index}
use Rattle.memory.specs.declared.verdicts.Verdict.{Verdict}
use Rattle.memory.specs.Clocks.{below}
use Rattle.memory.specs.Legal.{Claims}
use Rattle.memory.specs.Limits.{input_limit, program_steps}
use Rattle.memory.specs.Models.{sc, godson}
use Rattle.memory.specs.Runs.{Setting, setting, run_of}
use Rattle.wire.specs.declared.faults.RunFault.{RunFault}
use Rattle.wire.specs.Bytes.{notice_bytes}
use Rattle.wire.specs.Faults.{run_fault}
use Rattle.stages.specs.Stages.{verdict_at}
use Rattle.case.specs.State.{State, opened}
use Rattle.case.specs.Calls.{slip_in, paper_in, inferring, searching}
use Rattle.case.specs.Loading.{loading}

-- 2^64 - 1, more lines than a case can have
abbrev pub to_the_end : ℕ
to_the_end = 18446744073709551615

-- the case inferred to the end, then searched a million steps; where it is decided, either is refused and it stays as it was
abbrev pub concluded : Setting → State → State
concluded S s = (searching S (inferring S s to_the_end).state program_steps).state

-- the slip, then the paper, if there is one
abbrev pub verdict_bytes : ℕ → ℕ → State → List ℕ
verdict_bytes model clock s = slip_in s ++ unwrap_or (paper_in model clock s) []

-- the verdict of the loaded case, inferred to the end and searched; on a refusal a notice instead
abbrev pub output_by : Setting → Result (Option Verdict) RunFault → State → List ℕ
output_by S (Ok v) s = verdict_bytes S.model_mark S.clock_mark (concluded S s)
output_by S (Err f) s = notice_bytes (run_fault f)

-- what is written for the bytes of a run
abbrev pub output : Setting → List ℕ → List ℕ
output S bs = let o = loading S.model_mark S.clock_mark (opened 1) bs in output_by S o.answer o.state

-- what the verdict of a case claims of its records is true, where the order is that of the placed records
abbrev pub StateClaims : Setting → State → Type 0
StateClaims S s = Claims (run_of S s.records) s.standing.placed (verdict_at s.stage)

abbrev pub WrittenClaims : Setting → Result (Option Verdict) RunFault → State → Type 0
WrittenClaims S (Ok v) s = StateClaims S (concluded S s)
WrittenClaims S (Err f) s = Unit {0}

-- what the verdict that is written claims of the records read is true; a refusal claims nothing
abbrev pub OutputClaims : Setting → List ℕ → Type 0
OutputClaims S bs = let o = loading S.model_mark S.clock_mark (opened 1) bs in WrittenClaims S o.answer o.state

-- the settings that the program serves: Godson, mark 3, or else SC, mark 1, to which any other mark is foreign; the clock is Global, mark 1
abbrev pub served : Bool → Setting
served true = setting godson below 3 1
served false = setting sc below 1 1

-- the head marks the model in its second byte; only the first 4,096 bytes count
abbrev pub answer_to : List ℕ → List ℕ
answer_to input = let bs = take input_limit input in output (served (slice_index bs 4 == 3)) bs

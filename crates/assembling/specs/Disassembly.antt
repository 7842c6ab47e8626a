-- The text log of a run. Assumes nothing.
use Rattle.std.specs.Prelude.{◌≡◌, ℕ, cond, List, Ok, Err, Option, Result, ◌==◌, slice_index}
use Rattle.memory.specs.declared.verdicts.Verdict.{Verdict}
use Rattle.memory.specs.Lawful.{Lawful}
use Rattle.memory.specs.Runs.{Setting}
use Rattle.wire.specs.declared.faults.RunFault.{RunFault}
use Rattle.wire.specs.Bytes.{run_bytes}
use Rattle.case.specs.State.{State, opened}
use Rattle.case.specs.Loading.{loading}
use Rattle.judging.specs.Marked.{marked}
use Rattle.logs.specs.declared.heads.Head.{Head}
use Rattle.logs.specs.declared.heads.NamedModel.TheVariants.{Sc, Godson}
use Rattle.logs.specs.declared.heads.NamedClock.TheVariants.{Global, NoClock}
use Rattle.logs.specs.Printing.{printed}
use Rattle.assembling.specs.declared.disassembly.Contents.{Contents}
use Rattle.assembling.specs.declared.troubles.Undisassembled.{Undisassembled}
use Rattle.assembling.specs.declared.troubles.Undisassembled.TheVariants.{Run, OutOfMemory}

-- the head of a log of p processors, under the model and the clock that a run marks
abbrev pub head_of : List ℕ → ℕ → Head
head_of run p = record { model = cond (slice_index run 4 == 3) Godson Sc; clock = cond (slice_index run 5 == 3) NoClock Global; processors = p }

-- a run that loads is printed
abbrev pub text_of : List ℕ → Result (Option Verdict) RunFault → State → Result (List ℕ) RunFault
text_of run (Ok v) s = Ok (printed (head_of run s.processors) s.records)
text_of run (Err f) s = Err f

-- the log of a run in bytes, or why the run is refused
abbrev pub disassembled : List ℕ → Result (List ℕ) RunFault
disassembled run = let S = marked run in let o = loading S.model_mark S.clock_mark (opened 1) run in text_of run o.answer o.state

-- it is for the run's fault that there is no log, or memory ran out
abbrev pub IsFault : {A : Type 0} → Result A RunFault → Undisassembled → Type 0
IsFault r (Run f) = r ≡ Err f
IsFault r OutOfMemory = Unit {0}

-- what was read of a run under a setting
pub record Read (S : Setting) (run : List ℕ) (x : Contents) : Type 0 where
  -- it loads as a case of these processors and records, which keep the rules of a run
  pub verdict : Option Verdict
  pub answer : (loading S.model_mark S.clock_mark (opened 1) run).answer ≡ Ok verdict
  pub processors : x.processors ≡ (loading S.model_mark S.clock_mark (opened 1) run).state.processors
  pub records : x.records.items ≡ (loading S.model_mark S.clock_mark (opened 1) run).state.records
  pub lawful : Lawful x.processors x.records.items
  -- and they are written as the same bytes
  pub bytes : run_bytes x.processors S.model_mark S.clock_mark x.records.items ≡ run

abbrev pub Reads : Setting → List ℕ → Result Contents Undisassembled → Type 0
Reads S run (Ok x) = Read S run x
Reads S run (Err e) = IsFault (loading S.model_mark S.clock_mark (opened 1) run).answer e

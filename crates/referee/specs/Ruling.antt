-- What the referee answers for the bytes of a run and of a paper, and what its lists hold. Assumes nothing.
use Rattle.std.specs.Prelude.{ℕ, List, [], Some, None, Ok, Err, Option, Result}
use Rattle.memory.specs.declared.lines.Line.{Line}
use Rattle.memory.specs.declared.records.Record.{Record}
use Rattle.memory.specs.declared.verdicts.Verdict.{Verdict}
use Rattle.memory.specs.Runs.{Setting}
use Rattle.wire.specs.declared.faults.PaperFault.{PaperFault}
use Rattle.wire.specs.declared.faults.RunFault.{RunFault}
use Rattle.referee.specs.declared.faults.RefereeFault.{RefereeFault}
use Rattle.referee.specs.declared.faults.RefereeFault.TheVariants.{Run, Paper}
use Rattle.referee.specs.Papers.{judge_paper}
use Rattle.referee.specs.Runs.{read_run, WrittenRun}

-- the records that were read and the lines that were founded, up to the end or the fault, and the verdict of an accepted paper, or the fault
pub record Ruling : Type 0 where
  pub records : List Record
  pub lines : List Line
  pub answer : Result Verdict RefereeFault

-- the fault of a paper is told whole
abbrev pub told : Result Verdict PaperFault → Result Verdict RefereeFault
told (Ok v) = Ok v
told (Err f) = Err (Paper f)

-- the fault of the run is told whole, and the paper is then not read
abbrev pub rule_by : Option RunFault → Setting → List Record → ℕ → List ℕ → Ruling
rule_by (Some f) S rs places paper = record { records = rs; lines = []; answer = Err (Run f) }
rule_by None S rs places paper = let j = judge_paper S rs places paper in record { records = rs; lines = j.lines; answer = told j.answer }

-- the ruling, with a list of so many places for records, and one for lines
abbrev pub ruling : Setting → ℕ → ℕ → List ℕ → List ℕ → Ruling
ruling S record_places line_places run paper = let r = read_run S.model_mark S.clock_mark record_places run in rule_by r.fault S r.records line_places paper

-- unless the run is at fault, it was read whole: its bytes are exactly those of the records, under the two marks
abbrev pub ReadWhole : Setting → List Record → List ℕ → Result Verdict RefereeFault → Type 0
ReadWhole S rs run (Err (Run f)) = Unit {0}
ReadWhole S rs run r = WrittenRun S.model_mark S.clock_mark rs run

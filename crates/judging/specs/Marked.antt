-- The setting that the head of a run marks. Assumes nothing.
use Rattle.std.specs.Prelude.{ℕ, Bool, true, false, List, Result, ◌==◌, slice_index}
use Rattle.memory.specs.declared.verdicts.Verdict.{Verdict}
use Rattle.memory.specs.Clocks.{below, never}
use Rattle.memory.specs.Limits.{most_records, most_lines}
use Rattle.memory.specs.Models.{sc, godson}
use Rattle.memory.specs.Runs.{Setting, setting}
use Rattle.referee.specs.declared.faults.RefereeFault.{RefereeFault}
use Rattle.referee.specs.Ruling.{ruling}

-- Godson, mark 3, or else SC, mark 1; None, mark 3, or else Global, mark 1: any other mark is foreign to these
abbrev pub marked_by : Bool → Bool → Setting
marked_by true true = setting godson never 3 3
marked_by true false = setting godson below 3 1
marked_by false true = setting sc never 1 3
marked_by false false = setting sc below 1 1

-- the head marks the model in its second byte, and the clock in its third
abbrev pub marked : List ℕ → Setting
marked run = marked_by (slice_index run 4 == 3) (slice_index run 5 == 3)

-- what the referee answers of a run and a paper, under the marks of the run and with places for as many records and lines as there can be
abbrev pub answer_of : List ℕ → List ℕ → Result Verdict RefereeFault
answer_of run paper = (ruling (marked run) most_records most_lines run paper).answer

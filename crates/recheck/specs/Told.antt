-- The line that is printed, and the exit status. Assumes nothing.
use Rattle.std.specs.Prelude.{◌≡◌, ℕ, List, ◌++◌, codes, Some, Ok, Err, Option, Result, IfSome, take}
use Rattle.std.specs.declared.process.ExitCode.{ExitCode}
use Rattle.std.specs.Fmt.{decimal}
use Rattle.std.specs.Io.KnownBytes.{Appends}
use Rattle.std.specs.Process.{exit_status}
use Rattle.memory.specs.declared.verdicts.Verdict.{Verdict}
use Rattle.memory.specs.Numbers.{verdict_number}
use Rattle.referee.specs.declared.faults.RefereeFault.{RefereeFault}
use Rattle.referee.specs.Faults.{referee_fault}
use Rattle.judging.specs.Marked.{answer_of}
use Rattle.intake.specs.Limits.{file_limit}
use Rattle.telling.specs.Words.{refused_words, verdict_name}

-- of an accepted paper, its verdict
abbrev pub accepted_line : Verdict → List ℕ
accepted_line v = let n = verdict_number (Some v) in codes "accepted " ++ (decimal n ++ (codes " " ++ (verdict_name n ++ codes "\n")))

-- of what the referee answers
abbrev pub line_of : Result Verdict RefereeFault → List ℕ
line_of (Ok v) = accepted_line v
line_of (Err f) = refused_words (referee_fault f) ++ codes "\n"

-- the exit status that goes with it
abbrev pub status_of : Result Verdict RefereeFault → ℕ
status_of (Ok v) = 0
status_of (Err f) = 1

-- the line is written behind what was written before, and the program ends with this status
abbrev pub Tells : Result Verdict RefereeFault → Option (List ℕ) → Option (List ℕ) → ExitCode → Type 0
Tells answer old new status = Appends old new (line_of answer) × (exit_status status ≡ status_of answer)

-- of two readers whose bytes are known, it is the answer to the first of them, as many as are read of a file
abbrev pub TellsKnown : Option (List ℕ) → Option (List ℕ) → Option (List ℕ) → Option (List ℕ) → ExitCode → Type 0
TellsKnown of_run of_paper old new status = IfSome of_run (λ xs. IfSome of_paper (λ ys. Tells (answer_of (take file_limit xs) (take file_limit ys)) old new status))

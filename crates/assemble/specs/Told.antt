-- What is written, and the exit status. Assumes nothing.
use Rattle.std.specs.Prelude.{◌≡◌, ℕ, List, ◌++◌, codes, Ok, Err, Option, Result}
use Rattle.std.specs.declared.process.ExitCode.{ExitCode}
use Rattle.std.specs.Io.KnownBytes.{Appends}
use Rattle.std.specs.Process.{exit_status}
use Rattle.assembling.specs.declared.troubles.BadLog.{BadLog}
use Rattle.assembling.specs.Words.{bad_log_words}

-- the line on standard error
abbrev pub bad_line : BadLog → List ℕ
bad_line b = codes "assemble: " ++ (bad_log_words b ++ codes "\n")

-- of a text that is a run, its bytes and nothing else; of one that is none, what is wrong, and no byte of a run
abbrev pub Tells : Result (List ℕ) BadLog → Option (List ℕ) → Option (List ℕ) → Option (List ℕ) → Option (List ℕ) → ExitCode → Type 0
Tells (Ok run) out out' errors errors' status = Appends out out' run × (errors' ≡ errors) × (exit_status status ≡ 0)
Tells (Err b) out out' errors errors' status = (out' ≡ out) × Appends errors errors' (bad_line b) × (exit_status status ≡ 1)

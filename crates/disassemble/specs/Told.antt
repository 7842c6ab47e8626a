-- What is written, and the exit status. Assumes nothing.
use Rattle.std.specs.Prelude.{◌≡◌, ℕ, List, ◌++◌, codes, Ok, Err, Option, Result}
use Rattle.std.specs.declared.process.ExitCode.{ExitCode}
use Rattle.std.specs.Io.KnownBytes.{Appends}
use Rattle.std.specs.Process.{exit_status}
use Rattle.wire.specs.declared.faults.RunFault.{RunFault}
use Rattle.assembling.specs.Words.{bad_run_words}

-- the line on standard error
abbrev pub bad_line : RunFault → List ℕ
bad_line f = codes "disassemble: " ++ (bad_run_words f ++ codes "\n")

-- of a run that loads, its log and nothing else; of one that is refused, why, and no byte of a log
abbrev pub Tells : Result (List ℕ) RunFault → Option (List ℕ) → Option (List ℕ) → Option (List ℕ) → Option (List ℕ) → ExitCode → Type 0
Tells (Ok text) out out' errors errors' status = Appends out out' text × (errors' ≡ errors) × (exit_status status ≡ 0)
Tells (Err f) out out' errors errors' status = (out' ≡ out) × Appends errors errors' (bad_line f) × (exit_status status ≡ 1)

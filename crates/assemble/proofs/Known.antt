-- What is told of a reader whose bytes are known.
use Rattle.std.proofs.Common.{◌≡◌, ℕ, ◌≤◌, List, length, take, Some, None, Err, Option, IfSome, sym, ap, ◌∙◌, subst, arith, length-take}
use Rattle.std.proofs.lemmas.List.{take_all}
use Rattle.std.specs.declared.process.ExitCode.{ExitCode}
use Rattle.std.specs.Io.KnownBytes.{Appends}
use Rattle.std.specs.Process.{exit_status}
use Rattle.assembling.specs.declared.troubles.BadLog.{BadLog}
use Rattle.assembling.specs.Assembly.{assembled}
use Rattle.assemble.specs.Told.{bad_line, Tells}

-- one byte more than may come is read, and has not come
pub whole : (known : Option (List ℕ)) (text : List ℕ) → length text ≤ 1048576 → IfSome known (λ xs. text ≡ take 1048577 xs) → IfSome known (λ xs. text ≡ xs)
whole None text few is = tt
whole (Some xs) text few is = is ∙ take_all 1048577 xs (omega (arith, ap length is, length-take 1048577 xs))

-- a text that is refused
pub refused : (known out out' errors errors' : Option (List ℕ)) (text : List ℕ) (b : BadLog) (status : ExitCode) → IfSome known (λ xs. text ≡ xs) → assembled text ≡ Err b → out' ≡ out → Appends errors errors' (bad_line b) → exit_status status ≡ 1 → IfSome known (λ xs. Tells (assembled xs) out out' errors errors' status)
refused None out out' errors errors' text b status is bad kept told ends = tt
refused (Some xs) out out' errors errors' text b status is bad kept told ends = subst (λ r. Tells r out out' errors errors' status) (sym bad ∙ ap assembled is) (kept, told, ends)

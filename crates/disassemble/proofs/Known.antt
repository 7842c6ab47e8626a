-- What is told of a reader whose bytes are known.
use Rattle.std.proofs.Common.{◌≡◌, ℕ, List, take, Some, None, Option, Result, IfSome, sym, ap, ◌∙◌, subst, arith}
use Rattle.std.proofs.lemmas.List.{take-take}
use Rattle.std.specs.declared.process.ExitCode.{ExitCode}
use Rattle.wire.specs.declared.faults.RunFault.{RunFault}
use Rattle.assembling.specs.Disassembly.{disassembled}
use Rattle.disassemble.specs.Told.{Tells}

-- one byte more than count is read, and does not count
pub known : (known out out' errors errors' : Option (List ℕ)) (read run : List ℕ) (r : Result (List ℕ) RunFault) (status : ExitCode) → IfSome known (λ xs. read ≡ take 4097 xs) → run ≡ take 4096 read → disassembled run ≡ r → Tells r out out' errors errors' status → IfSome known (λ xs. Tells (disassembled (take 4096 xs)) out out' errors errors' status)
known None out out' errors errors' read run r status is counts told tells = tt
known (Some xs) out out' errors errors' read run r status is counts told tells = subst (λ r. Tells r out out' errors errors' status) (sym told ∙ ap disassembled (counts ∙ ap (take 4096) is ∙ take-take 4096 4097 xs (omega arith))) tells

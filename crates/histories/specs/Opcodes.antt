-- The opcodes of calls. Assumes nothing.
use Rattle.std.specs.Prelude.{ℕ, cond, Some, None, Option, ◌==◌}
use Rattle.histories.specs.declared.opcodes.Opcode.{Opcode}
use Rattle.histories.specs.declared.opcodes.Opcode.TheVariants.{Open, Admit, Infer, Seal, Search, Load, WriteRun, WriteSlip, WritePaper}

abbrev pub opcode_number : Opcode → ℕ
opcode_number Open = 1
opcode_number Admit = 2
opcode_number Infer = 3
opcode_number Seal = 4
opcode_number Search = 5
opcode_number Load = 6
opcode_number WriteRun = 7
opcode_number WriteSlip = 8
opcode_number WritePaper = 9

-- the opcode with a number, if there is one
abbrev pub opcode_at : ℕ → Option Opcode
opcode_at n =
    cond (n == 1) (Some Open)
    (cond (n == 2) (Some Admit)
    (cond (n == 3) (Some Infer)
    (cond (n == 4) (Some Seal)
    (cond (n == 5) (Some Search)
    (cond (n == 6) (Some Load)
    (cond (n == 7) (Some WriteRun)
    (cond (n == 8) (Some WriteSlip)
    (cond (n == 9) (Some WritePaper) None))))))))

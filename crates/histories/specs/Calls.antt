-- Calls as bytes. Assumes nothing.
use Rattle.std.specs.Prelude.{◌≡◌, ℕ, ◌+◌, ◌<◌, List, [], ◌∷◌, ◌++◌, length, Some, None, Option, MatchOption}
use Rattle.wire.specs.Bytes.{digits, number_at, entry_bytes}
use Rattle.histories.specs.declared.invocations.Invocation.{Invocation}
use Rattle.histories.specs.declared.invocations.Invocation.TheVariants as call
use Rattle.histories.specs.declared.invocations.Unreadable.{Unreadable}
use Rattle.histories.specs.declared.invocations.Unreadable.TheVariants as unreadable
use Rattle.histories.specs.declared.opcodes.Opcode.{Opcode}
use Rattle.histories.specs.declared.opcodes.Opcode.TheVariants as opcode
use Rattle.histories.specs.Opcodes.{opcode_number, opcode_at}

-- the opcode of a call
abbrev pub opcode_of : Invocation → Opcode
opcode_of (call.Open p) = opcode.Open
opcode_of (call.Admit e) = opcode.Admit
opcode_of (call.Infer k) = opcode.Infer
opcode_of call.Seal = opcode.Seal
opcode_of (call.Search k) = opcode.Search
opcode_of (call.Load run) = opcode.Load
opcode_of (call.WriteRun room) = opcode.WriteRun
opcode_of (call.WriteSlip room) = opcode.WriteSlip
opcode_of (call.WritePaper room) = opcode.WritePaper

-- the bytes of its arguments
abbrev pub arguments_of : Invocation → List ℕ
arguments_of (call.Open p) = p ∷ []
arguments_of (call.Admit e) = entry_bytes e
arguments_of (call.Infer k) = digits 8 k
arguments_of call.Seal = []
arguments_of (call.Search k) = digits 8 k
arguments_of (call.Load run) = digits 2 (length run.now) ++ run.now
arguments_of (call.WriteRun room) = digits 2 room
arguments_of (call.WriteSlip room) = digits 2 room
arguments_of (call.WritePaper room) = digits 2 room

-- two bytes are enough for the length of a run that is loaded
abbrev pub LengthFits : Invocation → Type 0
LengthFits (call.Open p) = Unit {0}
LengthFits (call.Admit e) = Unit {0}
LengthFits (call.Infer k) = Unit {0}
LengthFits call.Seal = Unit {0}
LengthFits (call.Search k) = Unit {0}
LengthFits (call.Load run) = length run.now < 65536
LengthFits (call.WriteRun room) = Unit {0}
LengthFits (call.WriteSlip room) = Unit {0}
LengthFits (call.WritePaper room) = Unit {0}

-- the bytes of a call
abbrev pub call_bytes : Invocation → List ℕ
call_bytes c = opcode_number (opcode_of c) ∷ arguments_of c

-- how many bytes a call is lent, if it writes
abbrev pub room_of : Invocation → Option ℕ
room_of (call.Open p) = None
room_of (call.Admit e) = None
room_of (call.Infer k) = None
room_of call.Seal = None
room_of (call.Search k) = None
room_of (call.Load run) = None
room_of (call.WriteRun room) = Some room
room_of (call.WriteSlip room) = Some room
room_of (call.WritePaper room) = Some room

-- how many bytes of arguments there are to be where these follow the opcode; those of a load begin with how many come behind
abbrev pub arguments_long : Opcode → List ℕ → ℕ
arguments_long opcode.Open bs = 1
arguments_long opcode.Admit bs = 30
arguments_long opcode.Infer bs = 8
arguments_long opcode.Seal bs = 0
arguments_long opcode.Search bs = 8
arguments_long opcode.Load bs = 2 + number_at bs 0 2
arguments_long opcode.WriteRun bs = 2
arguments_long opcode.WriteSlip bs = 2
arguments_long opcode.WritePaper bs = 2

-- why no call can be read from bytes
abbrev pub Unread : List ℕ → Unreadable → Type 0
Unread [] e = ⊥
Unread (n ∷ bs) (unreadable.Opcode k) = (k ≡ n) × (opcode_at n ≡ None)
Unread (n ∷ bs) unreadable.CutShort = MatchOption (opcode_at n) ⊥ (λ o. length bs < arguments_long o bs)

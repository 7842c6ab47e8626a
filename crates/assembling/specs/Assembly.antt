-- The run that a text log says. Assumes nothing.
use Rattle.std.specs.Prelude.{◌≡◌, ℕ, ◌+◌, Bool, false, not, cond, List, [], ◌∷◌, ◌++◌, length, Ok, Err, Result}
use Rattle.memory.specs.declared.records.Record.{Record}
use Rattle.memory.specs.declared.refusals.Layer.TheVariants as layer
use Rattle.memory.specs.declared.refusals.Refusal.{Refusal}
use Rattle.memory.specs.declared.refusals.Refusal.TheVariants as refuse
use Rattle.memory.specs.Admission.{opens, judgement}
use Rattle.wire.specs.Bytes.{run_bytes}
use Rattle.logs.specs.declared.heads.Head.{Head}
use Rattle.logs.specs.declared.reading.Access.{Access}
use Rattle.logs.specs.declared.troubles.BadLine.{BadLine}
use Rattle.logs.specs.declared.troubles.Unread.{Unread}
use Rattle.logs.specs.declared.troubles.Unread.TheVariants as unread
use Rattle.logs.specs.Heads.{model_mark, clock_mark}
use Rattle.logs.specs.Reading.{Said, lines_of, log_of}
use Rattle.assembling.specs.declared.troubles.BadLog.{BadLog}
use Rattle.assembling.specs.declared.troubles.BadLog.TheVariants as bad
use Rattle.assembling.specs.declared.troubles.Unassembled.{Unassembled}
use Rattle.assembling.specs.declared.troubles.Unassembled.TheVariants.{Log, OutOfMemory}

-- what a line says is refused behind n records, as a call on a case is: its place is n + 1
abbrev pub refused_behind : ℕ → ℕ → Refusal → BadLog
refused_behind n line r = bad.Record (record { line = line; fault = record { refusal = r; layer = layer.Content; place = n + 1 } })

-- the rest follows an access that becomes a record; one that is refused ends it
abbrev pub admitted_on : Result Record Refusal → ℕ → ℕ → (Record → Result (List Record) BadLog) → Result (List Record) BadLog
admitted_on (Ok r) n line rest = rest r
admitted_on (Err f) n line rest = Err (refused_behind n line f)

-- the records of a run of p processors, once accesses are admitted behind them one by one; or the first that is refused
unfoldable pub admitted : ℕ → List Record → List Access → Result (List Record) BadLog
admitted p rs [] = Ok rs
admitted p rs (a ∷ more) = admitted_on (judgement p rs a.entry) (length rs) a.line (λ r. admitted p (rs ++ r ∷ []) more)

-- what was read is of a number of processors that no run may have
abbrev pub strange : Result Said BadLine → Bool
strange (Ok s) = not (opens s.head.processors)
strange (Err b) = false

-- the first line, from the n-th on, that does so alone
unfoldable pub strange_line : ℕ → List (List ℕ) → ℕ
strange_line n [] = n
strange_line n (line ∷ more) = cond (strange (log_of line)) n (strange_line (n + 1) more)

-- the bytes of the run of a head and of what its accesses became
abbrev pub run_of : Head → Result (List Record) BadLog → Result (List ℕ) BadLog
run_of h (Ok rs) = Ok (run_bytes h.processors (model_mark h.model) (clock_mark h.clock) rs)
run_of h (Err b) = Err b

-- the bytes of the run that a text says, or the first thing wrong: a bad line, a number of processors that no run may have, or a record
abbrev pub assembled_of : List ℕ → Result Said BadLine → Result (List ℕ) BadLog
assembled_of text (Ok s) =
    cond (opens s.head.processors) (run_of s.head (admitted s.head.processors [] s.accesses)) (Err (refused_behind 0 (strange_line 1 (lines_of text)) refuse.Stranger))
assembled_of text (Err b) = Err (bad.Line b)

abbrev pub assembled : List ℕ → Result (List ℕ) BadLog
assembled text = assembled_of text (log_of text)

-- why a text is not assembled, where it cannot be read
abbrev pub unread_log : Unread → Unassembled
unread_log (unread.Line b) = Log (bad.Line b)
unread_log unread.OutOfMemory = OutOfMemory

-- it is for what is wrong, or memory ran out
abbrev pub IsRefusal : {A : Type 0} → Result A BadLog → Unassembled → Type 0
IsRefusal r (Log b) = r ≡ Err b
IsRefusal r OutOfMemory = Unit {0}

-- The words in which a bad log and a bad run are told. Assumes nothing.
use Rattle.std.specs.Prelude.{ℕ, List, ◌++◌, codes}
use Rattle.std.specs.Fmt.{decimal}
use Rattle.memory.specs.declared.refusals.Fault.{Fault}
use Rattle.memory.specs.Words.{refusal_words}
use Rattle.wire.specs.declared.faults.RunFault.{RunFault}
use Rattle.wire.specs.Faults.{run_fault}
use Rattle.telling.specs.Words.{refused_words}
use Rattle.logs.specs.Troubles.{bad_line_words}
use Rattle.assembling.specs.declared.troubles.BadRecord.{BadRecord}
use Rattle.assembling.specs.declared.troubles.BadLog.{BadLog}
use Rattle.assembling.specs.declared.troubles.BadLog.TheVariants.{Line, Record}

-- a fault, and what it means
abbrev pub fault_words : Fault → List ℕ
fault_words f = refused_words f ++ (codes ": " ++ refusal_words f.refusal)

-- the line's number, the fault, and what it means
abbrev pub bad_record_words : BadRecord → List ℕ
bad_record_words b = codes "line " ++ (decimal b.line ++ (codes ": " ++ fault_words b.fault))

abbrev pub bad_log_words : BadLog → List ℕ
bad_log_words (Line b) = bad_line_words b
bad_log_words (Record b) = bad_record_words b

abbrev pub bad_run_words : RunFault → List ℕ
bad_run_words f = fault_words (run_fault f)

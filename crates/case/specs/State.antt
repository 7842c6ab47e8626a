-- Where a case stands. Assumes nothing.
use Rattle.std.specs.Prelude.{ℕ, ◌+◌, List, [], ◌∷◌, ◌++◌, length}
use Rattle.memory.specs.declared.lines.Line.{Line}
use Rattle.memory.specs.declared.records.Record.{Record}
use Rattle.memory.specs.declared.refusals.Fault.{Fault}
use Rattle.memory.specs.declared.refusals.Layer.TheVariants as layer
use Rattle.memory.specs.declared.refusals.Refusal.{Refusal}
use Rattle.search.specs.Placing.{Standing, fresh}
use Rattle.stages.specs.declared.Stage.{Stage}
use Rattle.stages.specs.declared.Stage.TheVariants.{Open}

-- a case: its number of processors, its records, its lines, its stage, where the search stands, and the total of steps
pub record State : Type 0 where
  pub processors : ℕ
  pub records : List Record
  pub lines : List Line
  pub stage : Stage
  pub standing : Standing
  pub total : ℕ

-- a case that was opened with p processors
abbrev pub opened : ℕ → State
opened p = record { processors = p; records = []; lines = []; stage = Open; standing = fresh; total = 0 }

-- an open case of p processors with the records rs
abbrev pub holding : ℕ → List Record → State
holding p rs = record { processors = p; records = rs; lines = []; stage = Open; standing = fresh; total = 0 }

abbrev pub with_record : State → Record → State
with_record s r = record { processors = s.processors; records = s.records ++ r ∷ []; lines = s.lines; stage = s.stage; standing = s.standing; total = s.total }

abbrev pub with_stage : State → Stage → State
with_stage s g = record { processors = s.processors; records = s.records; lines = s.lines; stage = g; standing = s.standing; total = s.total }

-- the fault of a call on a case: its place is the number of records plus 1
abbrev pub case_fault : State → Refusal → Fault
case_fault s r = record { refusal = r; layer = layer.Content; place = length s.records + 1 }

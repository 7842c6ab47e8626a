-- What is looked for by a number from 1 on: the store that a load reads, and the line that a line is opposed to. Assumes nothing.
use Rattle.std.specs.Prelude.{ℕ, ◌-◌, Bool, List, slice_index_or}
use Rattle.memory.specs.declared.lines.Line.{Line}
use Rattle.memory.specs.declared.records.Record.{Record}
use Rattle.memory.specs.Reading.{reads_from}
use Rattle.memory.specs.Runs.{at}
use Rattle.inference.specs.Rules.{has_pair}

-- the load x reads record k
abbrev pub read_by : Record → List Record → ℕ → Bool
read_by x rs k = reads_from x (at rs k)

-- line k has the pair of the line l reversed; where there is no line k, this is asked of l itself
abbrev pub opposed_to : Line → List Line → ℕ → Bool
opposed_to l ls k = has_pair l.second l.first (slice_index_or ls (k - 1) l)

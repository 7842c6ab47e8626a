-- What the rules ask of records, where the records of the numbers are at hand. Assumes nothing.
use Rattle.std.specs.Prelude.{ℕ, Bool, not, ◌&&◌, List, ◌==◌}
use Rattle.memory.specs.declared.lines.Line.{Line}
use Rattle.memory.specs.declared.records.Record.{Record}
use Rattle.memory.specs.Kinds.{is_load, is_store}
use Rattle.memory.specs.Reading.{reads_from}
use Rattle.memory.specs.Runs.{at}
use Rattle.inference.specs.Rules.{listed}

-- x is a load of 0, and w a store to its address: `reads_initial`
abbrev pub initial : Record → Record → Bool
initial x w = is_load x.kind && (x.value == 0 && (is_store w.kind && w.address == x.address))

-- two stores to one address: `rivals`, of different records
abbrev pub write_one_address : Record → Record → Bool
write_one_address v w = is_store v.kind && (is_store w.kind && v.address == w.address)

-- the load x reads record w, another store than y to that address, and w is listed before y, which has the number b: `overwritten`
abbrev pub overwrites : List Record → List Line → Record → ℕ → Record → ℕ → Bool
overwrites rs ls x b y w =
    reads_from x (at rs w) && ((is_store (at rs w).kind && (is_store y.kind && ((at rs w).address == y.address && not (w == b)))) && listed ls w b)

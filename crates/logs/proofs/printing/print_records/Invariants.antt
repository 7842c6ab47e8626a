use Rattle.std.proofs.Common.{◌<◌, take, get_or, ℕ}
use Rattle.std.specs.Io.KnownBytes.{Appends}
use Rattle.std.specs.List.{flat_map}
use Rattle.memory.specs.declared.records.Record.{Record}
use Rattle.logs.specs.Printing.{line_words}
use Rattle.logs.specs.Sayable.{Fits}
use Rattle.logs.proofs.printing.print_records.Given as goal

abbrev pub invariant-loop-record : goal.invariant-loop-record
invariant-loop-record g l = record {
  printed : Appends (g.W.Write.contents l.initial.out) (g.W.Write.contents l.out) (flat_map line_words (take l.record-index l.records));
  fits : (k : ℕ) (d : Record) → k < l.record-index → Fits (get_or l.records k d);
}

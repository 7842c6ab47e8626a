use Rattle.std.proofs.Common.{◌-◌, length}
use Rattle.referee.proofs.Reading.{Reading}
use Rattle.referee.proofs.runs.take_records.Given as goal

abbrev pub invariant-loop-found : goal.invariant-loop-found
invariant-loop-found l = Reading l.processors l.initial.reader l.initial.records l.reader l.records

abbrev pub decreases-loop-found : goal.decreases-loop-found
decreases-loop-found l = length l.initial.reader.bytes.now - l.reader.at

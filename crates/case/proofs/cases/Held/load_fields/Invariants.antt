use Rattle.std.proofs.Common.{◌-◌, length}
use Rattle.case.proofs.Progress.{Progress}
use Rattle.case.proofs.cases.Held.load_fields.Given as goal

abbrev pub invariant-loop-found : goal.invariant-loop-found
invariant-loop-found l = Progress l.initial.reader l.initial.self l.reader l.self

abbrev pub decreases-loop-found : goal.decreases-loop-found
decreases-loop-found l = length l.initial.reader.bytes.now - l.reader.at

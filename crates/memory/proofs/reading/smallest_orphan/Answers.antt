use Rattle.std.proofs.Common.{rules, length}
use Rattle.memory.specs.Reading.{orphan, Least}
use Rattle.memory.proofs.Least.{least_once, picked}
use Rattle.memory.proofs.reading.smallest_orphan.Goals as goal

-- what is found is the least, and so is what `pick` gives
pub returns-clause-value : goal.returns-clause-value
returns-clause-value c =
    let rs = c.args.records.now in
    let least : Least (orphan rs) (length rs) c.map.result = search rules in
    least_once (orphan rs) (length rs) _ _ least (picked (orphan rs) (length rs))

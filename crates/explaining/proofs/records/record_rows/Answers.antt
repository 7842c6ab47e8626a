use Rattle.std.proofs.Common.{rules}
use Rattle.explaining.proofs.Listed.{pushed}
use Rattle.explaining.specs.Records.{IsRecordRow}
use Rattle.explaining.proofs.records.record_rows.Goals as goal

pub loop-index-preserved : goal.loop-index-preserved
loop-index-preserved c = pushed (IsRecordRow c.args.records.now) c.loop-index.rows.items c.push.new.self.items c.loop-index.index c.of.result (search rules) c.loop-index.invariant c.of.ensures

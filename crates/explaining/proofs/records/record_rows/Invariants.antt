use Rattle.explaining.specs.Records.{IsRecordRow}
use Rattle.explaining.specs.Rows.{AreRows}
use Rattle.explaining.proofs.records.record_rows.Given as goal

abbrev pub invariant-loop-index : goal.invariant-loop-index
invariant-loop-index l = AreRows (IsRecordRow l.records) l.index l.rows.items

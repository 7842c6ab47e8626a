use Rattle.std.proofs.Common.{arith}
use Rattle.drawing.proofs.Rows.{row_fits, place_read}
use Rattle.drawing.proofs.lanes.row_of.Goals as goal

pub overflow_add-result : goal.overflow_add-result
overflow_add-result c = grind (arith, row_fits, c.rows_above.ensures, c.records_of.ensures, c.element_fits)

pub returns : goal.returns
returns c = place_read c.args.records.now c.args.index _ _ _ c.requires c.rows_above.ensures c.records_of.ensures

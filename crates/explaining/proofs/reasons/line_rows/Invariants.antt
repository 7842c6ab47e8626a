use Rattle.std.proofs.Common.{◌+◌}
use Rattle.explaining.specs.Reasons.{IsLineRow}
use Rattle.explaining.specs.Rows.{AreRows}
use Rattle.explaining.proofs.reasons.line_rows.Given as goal

abbrev pub invariant-loop-index : goal.invariant-loop-index
invariant-loop-index l = AreRows (λ i. IsLineRow l.records l.lines l.model (i + 1)) l.index l.rows.items

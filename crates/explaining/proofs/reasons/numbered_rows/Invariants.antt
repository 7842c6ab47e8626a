use Rattle.std.proofs.Common.{slice_index_or}
use Rattle.explaining.specs.Reasons.{IsLineRow}
use Rattle.explaining.specs.Rows.{AreRows}
use Rattle.explaining.proofs.reasons.numbered_rows.Given as goal

abbrev pub invariant-loop-number : goal.invariant-loop-number
invariant-loop-number l = AreRows (λ i. IsLineRow l.records l.lines l.model (slice_index_or l.numbers i 0)) l.number-index l.rows.items

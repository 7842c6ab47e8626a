use Rattle.std.proofs.Common.{rules, slice_index_or}
use Rattle.explaining.proofs.Listed.{pushed}
use Rattle.explaining.specs.Reasons.{IsLineRow}
use Rattle.explaining.proofs.reasons.numbered_rows.Goals as goal

pub loop-number-preserved : goal.loop-number-preserved
loop-number-preserved c = pushed (λ i. IsLineRow c.args.records.now c.args.lines.now c.args.model (slice_index_or c.args.numbers.now i 0)) c.loop-number.rows.items c.push.new.self.items c.loop-number.number-index c.of.result (search rules) c.loop-number.invariant (search rules)

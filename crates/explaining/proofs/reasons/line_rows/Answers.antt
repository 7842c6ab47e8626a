use Rattle.std.proofs.Common.{rules, ◌+◌}
use Rattle.explaining.proofs.Listed.{pushed}
use Rattle.explaining.specs.Reasons.{IsLineRow}
use Rattle.explaining.proofs.reasons.line_rows.Goals as goal

pub loop-index-preserved : goal.loop-index-preserved
loop-index-preserved c = pushed (λ i. IsLineRow c.args.records.now c.args.lines.now c.args.model (i + 1)) c.loop-index.rows.items c.push.new.self.items c.loop-index.index c.of.result (search rules) c.loop-index.invariant c.of.ensures

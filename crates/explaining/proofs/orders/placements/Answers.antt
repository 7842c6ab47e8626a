use Rattle.std.proofs.Common.{rules}
use Rattle.explaining.proofs.Listed.{pushed}
use Rattle.explaining.specs.Orders.{IsPlacement}
use Rattle.explaining.proofs.orders.placements.Goals as goal

pub loop-index-preserved : goal.loop-index-preserved
loop-index-preserved c = pushed (IsPlacement c.args.records.now c.args.order.now) c.loop-index.rows.items c.push.new.self.items c.loop-index.index c.in_ok-row.row (search rules) c.loop-index.invariant (search rules)

use Rattle.explaining.specs.Orders.{IsPlacement}
use Rattle.explaining.specs.Rows.{AreRows}
use Rattle.explaining.proofs.orders.placements.Given as goal

abbrev pub invariant-loop-index : goal.invariant-loop-index
invariant-loop-index l = AreRows (IsPlacement l.records l.order) l.index l.rows.items

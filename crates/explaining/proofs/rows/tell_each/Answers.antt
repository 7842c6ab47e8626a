use Rattle.std.proofs.Common.{rules}
use Rattle.explaining.proofs.Each.{each_more}
use Rattle.explaining.proofs.rows.tell_each.Goals as goal

pub loop-item-preserved : goal.loop-item-preserved
loop-item-preserved g c = each_more g.T.Display.output c.args.items.now c.loop-item.item-index c.item-item.result _ _ _ (search rules) c.loop-item.invariant (search rules)

use Rattle.explaining.proofs.Each.{known_ok}
use Rattle.explaining.specs.Orders.{placement_words}
use Rattle.explaining.proofs.accounts.tell_each_placement.Goals as goal

pub returns : goal.returns
returns g c = known_ok placement_words c.args.rows.now _ _ c.tell_each.result c.tell_each.ensures

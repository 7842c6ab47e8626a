use Rattle.explaining.proofs.Each.{known_ok}
use Rattle.explaining.specs.Reasons.{line_words}
use Rattle.explaining.proofs.accounts.tell_each_line.Goals as goal

pub returns : goal.returns
returns g c = known_ok line_words c.args.rows.now _ _ c.tell_each.result c.tell_each.ensures

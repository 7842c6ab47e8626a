use Rattle.explaining.proofs.Each.{known_ok}
use Rattle.explaining.specs.Records.{record_words}
use Rattle.explaining.proofs.records.tell_each_row.Goals as goal

pub returns : goal.returns
returns g c = known_ok record_words c.args.rows.now _ _ c.tell_each.result c.tell_each.ensures

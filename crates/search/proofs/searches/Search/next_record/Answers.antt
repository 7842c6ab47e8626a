use Rattle.std.proofs.Common.{rules}
use Rattle.inference.specs.Views.{run_is}
use Rattle.inference.proofs.Searches.{find_upto}
use Rattle.search.specs.Placing.{candidate}
use Rattle.search.specs.Views.{standing_of}
use Rattle.search.proofs.Placing.{takes_least, least_is}
use Rattle.search.proofs.searches.Search.next_record.Goals as goal

pub returns : goal.returns
returns g c =
    let R = run_is c.args.run.now in
    let ls = c.args.lines.now in
    let s = standing_of c.args.self.now in
    let least = find_upto R.size (candidate R ls s) c.find.result c.find.ensures.runs (search rules) (λ x r q k. search rules) in
    record { value = least_is R ls s _ least; least = takes_least R ls s _ least }

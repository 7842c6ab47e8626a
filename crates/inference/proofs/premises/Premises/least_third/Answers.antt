use Rattle.std.proofs.Common.{length, rules}
use Rattle.inference.specs.Next.{tried}
use Rattle.inference.specs.Views.{records_in, lines_in, run_in}
use Rattle.inference.proofs.Searches.{find_map_upto}
use Rattle.inference.proofs.premises.Premises.least_third.Goals as goal

pub returns : goal.returns
returns g c =
    let self = c.args.self.now in
    find_map_upto (length (records_in self)) (tried (run_in self) (lines_in self) c.args.rule c.args.first c.args.second) _ c.find_map.ensures.runs (search rules) (λ x r q k. search rules)

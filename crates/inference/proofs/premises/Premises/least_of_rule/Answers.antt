use Rattle.std.proofs.Common.{length, rules}
use Rattle.inference.specs.Next.{least_of_first}
use Rattle.inference.specs.Views.{records_in, lines_in, run_in}
use Rattle.inference.proofs.Searches.{find_map_upto}
use Rattle.inference.proofs.premises.Premises.least_of_rule.Goals as goal

pub returns : goal.returns
returns g c =
    let self = c.args.self.now in
    find_map_upto (length (records_in self)) (least_of_first (run_in self) (lines_in self) c.args.rule) _ c.find_map.ensures.runs (search rules) (λ x r q k. search rules)

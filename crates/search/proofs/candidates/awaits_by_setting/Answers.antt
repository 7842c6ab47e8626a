use Rattle.std.proofs.Common.{rules, length}
use Rattle.inference.specs.Views.{run_is}
use Rattle.inference.proofs.Searches.{any_upto}
use Rattle.search.specs.Parts.{awaits_by_setting}
use Rattle.search.proofs.candidates.awaits_by_setting.Goals as goal

pub returns : goal.returns
returns g c =
    let run = c.args.run.now in
    any_upto (length run.records.now) (awaits_by_setting (run_is run) c.args.placed.now c.args.number) _ c.any.ensures.runs (search rules) (λ x r q k. search rules)

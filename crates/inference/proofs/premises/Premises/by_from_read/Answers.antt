use Rattle.std.proofs.Common.{ℕ, Bool, ◌&&◌, length, rules, ◌∙◌}
use Rattle.inference.specs.Records.{overwrites}
use Rattle.inference.specs.Rules.{known}
use Rattle.inference.specs.Views.{records_in, lines_in, run_in}
use Rattle.inference.proofs.Follows.{some_known}
use Rattle.inference.proofs.Searches.{any_upto}
use Rattle.inference.proofs.premises.Premises.by_from_read.Goals as goal

pub returns : goal.returns
returns g c =
    let self = c.args.self.now in
    let p : ℕ → Bool = overwrites (records_in self) (lines_in self) c.args.load c.args.second c.args.y in
    any_upto (length (records_in self)) (λ k. known (run_in self) k && p k) _ c.any.ensures.runs (search rules) (λ x r q k. search rules) ∙ some_known (run_in self) p

use Rattle.std.proofs.Common.{◌≡◌, length, rules, ◌∙◌}
use Rattle.memory.specs.declared.lines.Rule.TheVariants.{FromRead}
use Rattle.inference.specs.Records.{overwrites}
use Rattle.inference.specs.Rules.{some, by_rule}
use Rattle.inference.specs.Views.{records_in, lines_in, run_in}
use Rattle.inference.proofs.premises.Premises.follows.Goals as goal

-- with half its limits `search` does not find the step in between
pub returns-in-FromRead-clause-value : goal.returns-in-FromRead-clause-value
returns-in-FromRead-clause-value g c =
    let self = c.args.self.now in
    let l = c.args.line in
    let rs = records_in self in
    let is : c.by_from_read.result ≡ by_rule (run_in self) (lines_in self) FromRead l.first l.second l.third =
    c.by_from_read.ensures ∙ (λ i. some (overwrites rs (lines_in self) (c.in-Some-Some.ensures.1 i) l.second (c.in-Some-Some.ensures'.1 i)) (length rs)) in
    search rules

use Rattle.std.proofs.Common.{◌≡◌, Some, ap, rules, sym, subst}
use Rattle.memory.specs.declared.lines.Rule.TheVariants.{Clock}
use Rattle.memory.specs.Numbers.{rule_at}
use Rattle.inference.specs.Next.{Next, least_of_rule, next}
use Rattle.inference.specs.Views.{lines_in, run_in}
use Rattle.inference.proofs.Least.{all_rules, rule_in_order, next_is}
use Rattle.inference.proofs.Searches.{find_map_listed}
use Rattle.inference.proofs.premises.Premises.next_line.Goals as goal

pub returns : goal.returns
unfolding next
returns g c =
    let R = run_in c.args.self.now in
    let ls = lines_in c.args.self.now in
    let by = least_of_rule R ls in
    let is : c.find_map.result ≡ next R ls =
    find_map_listed (λ x. x.now) (λ i. i.rest.now) c.iter.ensures.runs all_rules c.iter.ensures.rest (λ r. by (Some r)) (λ k. by (rule_at k)) Clock (λ k lt. ap by (rule_in_order k lt)) _ c.find_map.ensures.runs (λ x r q k. search rules) in
    record { value = is; least = subst (Next R ls) (sym is) (next_is R ls) }

use Rattle.std.proofs.Common.{rules, vec_len}
use Rattle.search.proofs.Kept.{steps_distinct}
use Rattle.search.proofs.Steps.{steps_few}
use Rattle.case.proofs.cases.Held.search.Goals as goal

pub overflow_add-self : goal.overflow_add-self
overflow_add-self g c = let few = steps_few c.make_steps-progress.ensures.steps in search rules

pub invariant_of-self-inside : goal.invariant_of-self-inside
invariant_of-self-inside g c =
    let held = c.self.inside in
    let apart = steps_distinct (vec_len held.records) (search rules) c.make_steps-progress.ensures.steps held.apart in
    (held.room, (held.few, (held.opened, (held.lawful, (held.sized, (held.pairs, (apart, tt)))))))

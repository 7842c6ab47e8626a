use Rattle.std.proofs.Common.{rules, [], ◌≡◌, take, ◌∙◌, ap}
use Rattle.std.proofs.lemmas.List.{take_all}
use Rattle.std.proofs.lemmas.List.Sums.{fold_more}
use Rattle.memory.specs.Runs.{at}
use Rattle.explaining.proofs.Written.{are_written}
use Rattle.explaining.specs.Memory.{with_store, written}
use Rattle.explaining.proofs.contents.written.Goals as goal

pub loop-number-preserved : goal.loop-number-preserved
loop-number-preserved c = search (rules, fold_more (λ seen x. with_store seen (at c.args.records.now x)) [] c.args.front.now c.loop-number.number-index 0)

pub returns-clause-stored : goal.returns-clause-stored
returns-clause-stored c =
    let whole : take c.loop-number.number-index c.args.front.now ≡ c.args.front.now = search (rules, take_all c.loop-number.number-index c.args.front.now) in
    are_written c.args.records.now c.args.front.now c.loop-number.addresses.items (c.loop-number.invariant ∙ ap (written c.args.records.now) whole)

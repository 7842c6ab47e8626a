use Rattle.std.proofs.Common.{rules, ℕ, ◌∙◌, ap, fold}
use Rattle.inference.specs.Views.{setting_is}
use Rattle.memory.specs.Limits.{most_records}
use Rattle.search.proofs.Placing.{after, after_all}
use Rattle.search.proofs.candidates.value_at.Goals as goal

pub returns : goal.returns
returns g c =
    let placed = c.args.placed.now in
    let run = c.args.run.now in
    let h : ℕ → ℕ → ℕ = after (setting_is run) run.records.now c.args.address in
    let (p, from, whole, result) = c.fold.ensures.runs in
    result (λ v y. h v y.now) (λ v y r f k. search rules)
    ∙ (c.iter.ensures.runs p p.seen).5 h 0 whole
    ∙ ap (λ s. fold h 0 s.rest.now) from
    ∙ ap (fold h 0) c.iter.ensures.rest
    ∙ after_all (setting_is run) run.records.now c.args.address most_records placed 0 c.requires

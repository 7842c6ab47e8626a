use Rattle.std.proofs.Common.{◌≡◌, true, vec_items, sym, ◌∙◌, subst, arith}
use Rattle.inference.specs.Next.{fits}
use Rattle.inference.specs.Paired.{paired}
use Rattle.inference.specs.Views.{run_in}
use Rattle.inference.proofs.Pairs.{paired_push}
use Rattle.inference.proofs.Room.{room_left}
use Rattle.inference.proofs.lines.Lines.list_next.Goals as goal

pub push_reserved-requires : goal.push_reserved-requires
push_reserved-requires g c =
    let self = c.args.self.now in
    let R = run_in c.of.result in
    let l = c.in_ok-line.line in
    let fit : fits R (vec_items self.items) l ≡ true = subst (λ ls. fits R ls l ≡ true) (c.of.ensures.lines ∙ c.as_slice.ensures) c.in_ok-line.ensures.least.0 in
    omega (arith, room_left R _ l c.of.result.run.few self.pairs fit, self.room, self.items.ok.0)

pub invariant_of-self-clause-pairs : goal.invariant_of-self-clause-pairs
invariant_of-self-clause-pairs g c =
    let self = c.args.self.now in
    let R = run_in c.of.result in
    let l = c.in_ok-line.line in
    let fit : fits R (vec_items self.items) l ≡ true = subst (λ ls. fits R ls l ≡ true) (c.of.ensures.lines ∙ c.as_slice.ensures) c.in_ok-line.ensures.least.0 in
    subst (λ ls. paired 64 ls ≡ true) (sym c.push_reserved.ensures.items) (paired_push R 64 c.of.result.run.few (vec_items self.items) l self.pairs fit)

use Rattle.std.proofs.Common.{rules, arith}
use Rattle.memory.specs.Limits.{most_records}
use Rattle.inference.specs.Views.{run_is}
use Rattle.search.proofs.LegalOrders.{follow_distinct, follow_more, wrong_length, one_fails, all_pass}
use Rattle.search.proofs.orders.is_legal.Goals as goal

pub returns-then-order-from : goal.returns-then-order-from
returns-then-order-from g c = wrong_length (run_is c.args.run.now) c.args.order.now (λ e. omega (arith, e, c.if-order-from.true, c.count.ensures, c.from.ensures))

pub may_follow-requires : goal.may_follow-requires
may_follow-requires g c =
    follow_distinct (run_is c.args.run.now) c.args.order.now most_records c.loop-place.place c.args.run.now.few (omega (arith, c.loop-place-test.true)) c.loop-place.invariant

pub returns-then-not-may_follow : goal.returns-then-not-may_follow
returns-then-not-may_follow g c = one_fails (run_is c.args.run.now) c.args.order.now c.loop-place.place c.loop-place-test.true (search rules)

pub loop-place-preserved : goal.loop-place-preserved
loop-place-preserved g c = follow_more (run_is c.args.run.now) c.args.order.now c.loop-place.place c.loop-place.invariant (search rules)

pub returns : goal.returns
returns g c =
    all_pass (run_is c.args.run.now) c.args.order.now c.loop-place.place (omega (arith, c.if-order-from.false, c.from.ensures, c.count.ensures)) (omega (arith, c.loop-place-test.false)) c.loop-place.invariant

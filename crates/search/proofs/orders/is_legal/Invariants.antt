use Rattle.inference.specs.Views.{run_is}
use Rattle.search.proofs.LegalOrders.{Follow}
use Rattle.search.proofs.orders.is_legal.Given as goal

abbrev pub invariant-loop-place : goal.invariant-loop-place
invariant-loop-place g l = Follow (run_is l.run) l.order l.place

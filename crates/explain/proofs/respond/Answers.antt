use Rattle.std.proofs.Common.{rules}
use Rattle.explain.proofs.Known.{known}
use Rattle.explain.proofs.respond.Goals as goal

pub returns : goal.returns
returns g c = known (g.R.Read.remaining c.args.input) _ _ c.args.steps c.deref.result.now c.tell.result (search (rules, c.deref.ensures.value, c.in_ok-input.ensures.bytes)) c.tell.ensures

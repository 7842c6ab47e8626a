use Rattle.std.proofs.Common.{rules}
use Rattle.draw.proofs.Known.{known}
use Rattle.draw.proofs.respond.Goals as goal

pub returns : goal.returns
returns g c = known (g.R.Read.remaining c.args.input) _ _ c.args.steps c.deref.result.now c.picture.result (search (rules, c.deref.ensures.value, c.in_ok-input.ensures.bytes)) c.picture.ensures

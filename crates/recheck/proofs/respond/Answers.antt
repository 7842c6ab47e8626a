use Rattle.std.proofs.Common.{rules}
use Rattle.recheck.proofs.Known.{known}
use Rattle.recheck.proofs.respond.Goals as goal

pub returns : goal.returns
returns g c = known (g.R.Read.remaining c.args.run.reader) (g.R.Read.remaining c.args.paper.reader) _ _ c.in_ok-run.run'.items c.in_ok-paper.paper.items c.judge.result c.in_ok-tell.field-0 c.in_ok-run.ensures.bytes c.in_ok-paper.ensures.bytes (search rules) c.in_ok-tell.ensures

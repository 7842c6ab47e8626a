use Rattle.std.proofs.Common.{rules}
use Rattle.zielwart.proofs.Counted.{written, notice}
use Rattle.zielwart.proofs.respond.Goals as goal

pub returns-clause-written : goal.returns-clause-written
returns-clause-written g c = written (g.R.Read.remaining c.args.input) _ _ c.in_ok-input.input.items c.in_ok-bytes.bytes.items c.in_ok-input.ensures.bytes (search rules) (search rules)

pub returns-clause-notice : goal.returns-clause-notice
returns-clause-notice g c = notice (g.R.Read.remaining c.args.input) c.in_ok-input.input.items c.in_ok-bytes.bytes.items c.eq.result c.in_ok-input.ensures.bytes (search rules) (search rules)

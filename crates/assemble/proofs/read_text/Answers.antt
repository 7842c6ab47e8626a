use Rattle.std.proofs.Common.{rules}
use Rattle.assemble.proofs.Known.{whole}
use Rattle.assemble.proofs.read_text.Goals as goal

pub returns-2 : goal.returns-2
returns-2 g c = whole (g.R.Read.remaining c.args.input) c.in_ok-text.text.items (search rules) (search rules)

use Rattle.std.proofs.Common.{rules, Err, ◌≡◌}
use Rattle.assembling.specs.Assembly.{assembled}
use Rattle.assemble.proofs.Known.{refused}
use Rattle.assemble.proofs.respond.Goals as goal

pub returns-in-Err-Log : goal.returns-in-Err-Log
returns-in-Err-Log g c =
    let is : assembled c.in_ok-text.text.items ≡ Err c.in-Err-Log.bad = search rules in
    refused (g.R.Read.remaining c.args.input) _ _ _ _ c.in_ok-text.text.items c.in-Err-Log.bad _ (search rules) is (search rules) (search rules) (search rules)

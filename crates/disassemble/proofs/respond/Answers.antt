use Rattle.std.proofs.Common.{rules, Ok, Err, ◌≡◌}
use Rattle.assembling.specs.Disassembly.{disassembled}
use Rattle.disassemble.proofs.Known.{known}
use Rattle.disassemble.proofs.respond.Goals as goal

pub returns-in-Ok : goal.returns-in-Ok
returns-in-Ok g c =
    let told : disassembled c.counted.result.now ≡ Ok c.in-Ok.text.items = search rules in
    known (g.R.Read.remaining c.args.input) _ _ _ _ c.in_ok-input.input.items c.counted.result.now (Ok c.in-Ok.text.items) _ (search rules) (search rules) told (search rules, search rules, search rules)

pub returns-in-Err-Run : goal.returns-in-Err-Run
returns-in-Err-Run g c =
    let told : disassembled c.counted.result.now ≡ Err c.in-Err-Run.fault = search rules in
    known (g.R.Read.remaining c.args.input) _ _ _ _ c.in_ok-input.input.items c.counted.result.now (Err c.in-Err-Run.fault) _ (search rules) (search rules) told (search rules, search rules, search rules)

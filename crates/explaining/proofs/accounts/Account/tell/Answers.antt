use Rattle.std.proofs.Common.{rules, ◌++◌, codes, IfOk, subst, sym}
use Rattle.std.specs.Io.KnownBytes.{Appends}
use Rattle.explaining.proofs.Each.{line_ok}
use Rattle.explaining.specs.Accounts.{loaded_top, refused_top, end_words, refused_end, outcome_words}
use Rattle.explaining.specs.declared.accounts.Outcome.{Outcome}
use Rattle.explaining.specs.Records.{table_words}
use Rattle.explaining.proofs.accounts.Account.tell.Goals as goal

pub returns-in_ok-writeln-in-Loaded : goal.returns-in_ok-writeln-in-Loaded
returns-in_ok-writeln-in-Loaded g c = let a = c.args.self.now in let contents = g.W.Write.contents in
    let top = loaded_top a.under a.given c.in-Loaded.findings in let rest = table_words a.widths a.records.items ++ end_words c.in-Loaded.findings in
    search (rules, line_ok (contents c.args.out.now) (contents c.writeln.new.self) (contents c.tell_findings.new.out) top rest c.tell_findings.result)

pub returns-in_ok-writeln-in-Refused : goal.returns-in_ok-writeln-in-Refused
returns-in_ok-writeln-in-Refused g c = let a = c.args.self.now in let r = c.in-Refused.refusal in let contents = g.W.Write.contents in
    let top = refused_top a.under a.given r.fault in let rest = table_words a.widths a.records.items ++ (refused_end r.fault r.spot ++ codes "\n") in
    let P : Outcome → Type 0 = λ o. IfOk c.tell_refusal.result (λ _. Appends (contents c.args.out.now) (contents c.tell_refusal.new.out) (outcome_words a o)) in
    subst P (sym c.in-Refused.is) (line_ok (contents c.args.out.now) (contents c.writeln-in-Refused.new.self) (contents c.tell_refusal.new.out) top rest c.tell_refusal.result c.in_ok-writeln-in-Refused.ensures.bytes c.tell_refusal.ensures)

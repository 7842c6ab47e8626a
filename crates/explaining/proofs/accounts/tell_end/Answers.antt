use Rattle.std.proofs.Common.{rules}
use Rattle.explaining.proofs.Each.{then_ok}
use Rattle.explaining.specs.Accounts.{why_words, answer_end}
use Rattle.explaining.proofs.accounts.tell_end.Goals as goal

pub returns : goal.returns
returns g c = let f = c.args.findings.now in let contents = g.W.Write.contents in
    then_ok (contents c.args.out.now) (contents c.tell_why.new.out) (contents c.tell_answer.new.out) (why_words f.why) (answer_end f.lines.items f.answer) c.tell_answer.result c.in_ok-tell_why.ensures (search (rules, c.deref.ensures.value, c.tell_answer.ensures))

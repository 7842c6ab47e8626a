use Rattle.std.proofs.Common.{rules, ◌≡◌, ap, ◌∙◌}
use Rattle.judging.specs.Marked.{marked}
use Rattle.std.specs.List.{All}
use Rattle.logs.specs.Printing.{printed, ReadsBack}
use Rattle.logs.specs.Sayable.{Printable}
use Rattle.assembling.specs.Assembly.{assembled}
use Rattle.assembling.specs.Disassembly.{head_of, Read}
use Rattle.assembling.proofs.Back.{read_back}
use Rattle.assembling.proofs.disassembly.disassemble.Goals as goal

pub returns-clause-back : goal.returns-clause-back
returns-clause-back c =
    let x = c.in_ok-contents.contents in
    let read : Read (marked c.args.run.now) c.args.run.now x = search rules in
    let is : c.print_log.new.out.items ≡ printed (head_of c.args.run.now x.processors) x.records.items = search rules in
    let back : All Printable x.records.items → ReadsBack (head_of c.args.run.now x.processors) x.records.items = search rules in
    ap assembled is ∙ read_back c.args.run.now x read back

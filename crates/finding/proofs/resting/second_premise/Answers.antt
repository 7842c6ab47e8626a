use Rattle.std.proofs.Common.{length, take, get_or, rules}
use Rattle.memory.specs.Reading.{Least}
use Rattle.finding.specs.Resting.{no_line, line_at, gives_second}
use Rattle.finding.proofs.Premises.{first_before}
use Rattle.finding.proofs.resting.second_premise.Goals as goal

pub returns : goal.returns
returns c =
    let ls = c.args.lines.now in
    let before = take c.args.index ls in
    let l = get_or ls c.args.index no_line in
    let first : Least (λ k. gives_second l.rule l (line_at before k)) (length before) c.map.result = search rules in
    first_before (λ l m. gives_second l.rule l m) ls c.args.index c.map.result c.requires first

use Rattle.std.proofs.Common.{rules}
use Rattle.wire.specs.Fields.{written_line_of}
use Rattle.referee.proofs.Taking.{took}
use Rattle.referee.proofs.papers.take_line.Goals as goal

pub returns : goal.returns
returns g c =
    let part = c.args.part in
    took _ part.place (written_line_of part.place part.content.now) c.in_ok-written.written c.push.result c.map_err.result (search rules) (search rules) (search rules) c.push.ensures c.map_err.ensures.cases

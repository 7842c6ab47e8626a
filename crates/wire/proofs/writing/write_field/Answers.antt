use Rattle.std.proofs.Common.{rules, arith}
use Rattle.wire.proofs.Pens.{written}
use Rattle.wire.proofs.writing.write_field.Goals as goal

pub returns : goal.returns
returns g c = written _ _ _ c.over-pen.ensures.start c.over-pen.ensures.bytes c.write.ensures (omega (arith, g.met.T.Encode.long c.args.x)) c.written.ensures (search rules)

use Rattle.std.proofs.Common.{arith}
use Rattle.wire.specs.Encoded.{encoded}
use Rattle.wire.proofs.Pens.{room_more, put_more}
use Rattle.wire.proofs.writing.pen.Pen.write_all.Goals as goal

pub write-requires : goal.write-requires
write-requires g c =
    omega (arith, room_more (encoded g.T.Encode) _ _ c.args.xs.now c.loop-x.x-index _ c.loop-x-test.true c.x-item.is c.loop-x.invariant c.requires, g.met.T.Encode.long c.x-item.result)

pub loop-x-preserved : goal.loop-x-preserved
loop-x-preserved g c = put_more (encoded g.T.Encode) _ _ c.args.xs.now c.loop-x.x-index _ c.loop-x-test.true c.x-item.is c.loop-x.invariant _ c.write.ensures

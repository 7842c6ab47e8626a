use Rattle.std.proofs.Common.{take}
use Rattle.wire.specs.Encoded.{all_encoded}
use Rattle.wire.specs.Pens.{Put}
use Rattle.wire.proofs.writing.pen.Pen.write_all.Given as goal

abbrev pub invariant-loop-x : goal.invariant-loop-x
invariant-loop-x g l = Put l.initial.self l.self (all_encoded g.T.Encode (take l.x-index l.xs))

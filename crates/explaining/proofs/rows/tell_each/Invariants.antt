use Rattle.std.proofs.Common.{IfSome, take}
use Rattle.std.specs.Io.KnownBytes.{Appends}
use Rattle.explaining.specs.Rows.{each}
use Rattle.explaining.proofs.rows.tell_each.Given as goal

abbrev pub invariant-loop-item : goal.invariant-loop-item
invariant-loop-item g l = IfSome (each g.T.Display.output (take l.item-index l.items)) (Appends (g.W.Write.contents l.initial.out) (g.W.Write.contents l.out))

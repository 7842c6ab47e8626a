use Rattle.std.proofs.Common.{arith, refl}
use Rattle.drawing.proofs.Columns.{smaller_more}
use Rattle.drawing.proofs.bars.Bar.of.Goals as goal

pub returns : goal.returns
returns c = record {
  in_row = refl;
  begins = c.column.ensures;
  ends = c.column-2.ensures;
  forward = λ le. omega (arith, c.column.ensures, c.column-2.ensures, smaller_more c.args.axis.now.readings.items c.args.drawn.enter c.args.drawn.commit le);
}

use Rattle.drawing.proofs.Units.{keeps_apart}
use Rattle.drawing.proofs.geometry.column_x.Goals as goal

pub returns-clause-apart : goal.returns-clause-apart
returns-clause-apart c = keeps_apart c.args.last

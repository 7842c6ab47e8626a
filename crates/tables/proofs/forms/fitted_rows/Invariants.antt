use Rattle.std.proofs.Common.{◌≡◌, map, take}
use Rattle.tables.specs.Rows.{cells}
use Rattle.tables.specs.Widths.{width_list, fitted}
use Rattle.tables.proofs.forms.fitted_rows.Given as goal

abbrev pub invariant-loop-row : goal.invariant-loop-row
invariant-loop-row l = map cells l.fitted.items ≡ map (fitted (width_list l.widths)) (map cells (take l.row-index l.rows))

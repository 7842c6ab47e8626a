use Rattle.std.proofs.Common.{◌≡◌, map, take}
use Rattle.tables.specs.Rows.{cells}
use Rattle.tables.specs.Forms.{shown_rows}
use Rattle.tables.proofs.forms.shown_rows.Given as goal

abbrev pub invariant-loop-row : goal.invariant-loop-row
invariant-loop-row l = map cells l.shown.items ≡ shown_rows (map cells (take l.row-index l.rows))

use Rattle.std.proofs.Common.{◌≡◌, ◌∷◌, map, take}
use Rattle.tables.specs.Rows.{cells}
use Rattle.tables.specs.Widths.{width_list, widths}
use Rattle.tables.proofs.widths.Widths.of.Given as goal

abbrev pub invariant-loop-row : goal.invariant-loop-row
invariant-loop-row l = width_list l.widths ≡ widths (cells l.headings ∷ map cells (take l.row-index l.rows))

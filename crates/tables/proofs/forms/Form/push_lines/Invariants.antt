use Rattle.std.proofs.Common.{◌≡◌, ◌++◌, map, take}
use Rattle.std.specs.List.{flat_map}
use Rattle.tables.specs.Rows.{cells}
use Rattle.tables.specs.Forms.{line_in}
use Rattle.tables.proofs.forms.Form.push_lines.Given as goal

abbrev pub invariant-loop-row : goal.invariant-loop-row
invariant-loop-row l = l.out.items ≡ l.initial.out.items ++ flat_map (line_in l.self) (map cells (take l.row-index l.rows))

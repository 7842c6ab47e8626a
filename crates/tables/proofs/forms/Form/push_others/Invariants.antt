use Rattle.std.proofs.Common.{◌≡◌, ◌++◌, map, take}
use Rattle.std.specs.List.{flat_map}
use Rattle.tables.specs.Forms.{cell_in, gap_of}
use Rattle.tables.proofs.forms.Form.push_others.Given as goal

abbrev pub invariant-loop-cell : goal.invariant-loop-cell
invariant-loop-cell l = l.out.items ≡ l.initial.out.items ++ flat_map (λ d. gap_of l.self ++ cell_in l.self d) (map (λ s. s.now) (take l.cell-index l.cells))

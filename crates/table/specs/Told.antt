-- The table that is written, and the exit status. Assumes nothing.
use Rattle.std.specs.Prelude.{◌≡◌, ℕ, List, map, Option, if◌then◌else◌}
use Rattle.std.specs.List.{list_all}
use Rattle.std.specs.declared.process.ExitCode.{ExitCode}
use Rattle.std.specs.Io.KnownBytes.{Appends}
use Rattle.std.specs.Process.{exit_status}
use Rattle.tables.specs.declared.forms.Form.{Form}
use Rattle.tables.specs.declared.rows.Row.{Row}
use Rattle.tables.specs.Forms.{table_in}
use Rattle.tables.specs.Rows.{cells}

-- the table of the rows is written behind what was written before, and the program ends with 0 where each of the runs was judged, and with 1 elsewhere
abbrev pub TellsTable : Form → List Row → Option (List ℕ) → Option (List ℕ) → ExitCode → Type 0
TellsTable form rows old new status =
    Appends old new (table_in form (map cells rows)) × (exit_status status ≡ (if list_all (λ row. row.judged) rows then 0 else 1))

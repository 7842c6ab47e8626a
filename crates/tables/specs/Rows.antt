-- The cells of a row, from left to right. Assumes nothing.
use Rattle.std.specs.Prelude.{◌≡◌, is_ok, ℕ, cond, ◌==◌, List, [], ◌∷◌, length, codes, Some, None, Option, Ok, Err, Result, string_bytes, Vec}
use Rattle.std.specs.Fmt.{decimal}
use Rattle.std.specs.declared.alloc.Global.{Global}
use Rattle.memory.specs.declared.verdicts.Verdict.{Verdict}
use Rattle.memory.specs.Numbers.{verdict_number}
use Rattle.wire.specs.declared.faults.RunFault.{RunFault}
use Rattle.wire.specs.Faults.{run_fault}
use Rattle.telling.specs.Words.{model_name, clock_name, verdict_name, refused_words}
use Rattle.deciding.specs.declared.Report.{Report}
use Rattle.deciding.specs.Reports.{Reports}
use Rattle.judging.specs.Marked.{marked}
use Rattle.tables.specs.declared.rows.Row.{Row}

abbrev pub cells : Row → List (List ℕ)
cells r =
    string_bytes r.name ∷ string_bytes r.records ∷ string_bytes r.processors ∷ string_bytes r.model
    ∷ string_bytes r.clock ∷ string_bytes r.verdict ∷ string_bytes r.steps ∷ string_bytes r.paper ∷ []

-- the first row says what stands below
abbrev pub headings : List (List ℕ)
headings =
    codes "run" ∷ codes "records" ∷ codes "processors" ∷ codes "model"
    ∷ codes "clock" ∷ codes "verdict" ∷ codes "steps" ∷ codes "paper bytes" ∷ []

-- a cell of which nothing can be said
abbrev pub unsaid : List ℕ
unsaid = codes "-"

abbrev pub paper_cell : Option (Vec ℕ Global) → List ℕ
paper_cell (Some v) = decimal (length v.items)
paper_cell None = unsaid

-- of a run that was judged, with or without a verdict
abbrev pub ruled_cells : List ℕ → Report → Option Verdict → List (List ℕ)
ruled_cells name r v =
    name ∷ decimal (length r.records.items) ∷ decimal r.processors ∷ model_name r.model
    ∷ clock_name r.clock ∷ verdict_name (verdict_number v) ∷ decimal r.steps ∷ paper_cell r.paper ∷ []

-- a word of the head of a refused run: where the head itself is refused, which may mark another model or clock, nothing is said
abbrev pub of_head : RunFault → List ℕ → List ℕ
of_head f word = cond ((run_fault f).place == 0) unsaid word

-- of a run that was refused: its records are those before the fault
abbrev pub refused_cells : List ℕ → Report → RunFault → List (List ℕ)
refused_cells name r f =
    name ∷ decimal (length r.records.items) ∷ unsaid ∷ of_head f (model_name r.model)
    ∷ of_head f (clock_name r.clock) ∷ refused_words (run_fault f) ∷ unsaid ∷ unsaid ∷ []

abbrev pub cells_by : List ℕ → Report → Result (Option Verdict) RunFault → List (List ℕ)
cells_by name r (Ok v) = ruled_cells name r v
cells_by name r (Err f) = refused_cells name r f

-- of a run with a name, of which this was found
abbrev pub report_cells : List ℕ → Report → List (List ℕ)
report_cells name r = cells_by name r r.ruling

-- of a file that could not be read
abbrev pub unreadable_cells : List ℕ → List (List ℕ)
unreadable_cells name = name ∷ unsaid ∷ unsaid ∷ unsaid ∷ unsaid ∷ codes "unreadable" ∷ unsaid ∷ unsaid ∷ []

-- the row says what is found of a run with this name in these bytes, which is searched so many steps
abbrev pub IsRowOf : List ℕ → List ℕ → ℕ → Row → Type 0
IsRowOf name bytes steps row =
    (r : Report) × Reports (marked bytes) bytes steps r × (cells row ≡ report_cells name r) × (row.judged ≡ is_ok r.ruling)

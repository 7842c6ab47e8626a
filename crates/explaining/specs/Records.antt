-- What a load reads, and the table of records. Assumes nothing.
use Rattle.std.specs.Prelude.{◌≡◌, ℕ, ◌+◌, ◌≢◌, true, false, List, [], ◌++◌, length, max, codes, Some, None, fold}
use Rattle.std.specs.Fmt.{decimal}
use Rattle.memory.specs.declared.kinds.Kind.{Kind}
use Rattle.memory.specs.declared.kinds.Kind.TheVariants.{Load, Store, Fence}
use Rattle.memory.specs.declared.records.Record.{Record}
use Rattle.memory.specs.Kinds.{is_load}
use Rattle.memory.specs.Reading.{Least}
use Rattle.memory.specs.Runs.{at}
use Rattle.finding.specs.Finding.{read_by}
use Rattle.explaining.specs.Rows.{right, left, left_hex, right_text, left_text, lines}
use Rattle.explaining.specs.declared.records.Reading.{Reading}
use Rattle.explaining.specs.declared.records.Reading.TheVariants as reading
use Rattle.explaining.specs.declared.records.RecordRow.{RecordRow}
use Rattle.explaining.specs.declared.records.Widths.{Widths}

-- what a record reads: nothing where it is no load; else the value at the start, or the store of the run that it reads, or what nobody wrote
abbrev pub IsReading : Record → List Record → Reading → Type 0
IsReading x rs reading.Nothing = is_load x.kind ≡ false
IsReading x rs reading.Start = (is_load x.kind ≡ true) × (x.value ≡ 0)
IsReading x rs (reading.Store k) = Least (read_by x rs) (length rs) (Some k)
IsReading x rs reading.Nobody = (is_load x.kind ≡ true) × (x.value ≢ 0) × Least (read_by x rs) (length rs) None

abbrev pub reading_cell : Reading → List ℕ
reading_cell reading.Nothing = []
reading_cell reading.Start = codes "  the start"
reading_cell (reading.Store k) = codes "  store " ++ decimal k
reading_cell reading.Nobody = codes "  no store"

-- what a record does, in five columns
abbrev pub kind_cell : Kind → List ℕ
kind_cell Load = codes "load "
kind_cell Store = codes "store"
kind_cell Fence = codes "fence"

-- a fence has no address and no value
abbrev pub address_cell : Kind → ℕ → List ℕ
address_cell Load a = codes "0x" ++ left_hex 8 a
address_cell Store a = codes "0x" ++ left_hex 8 a
address_cell Fence a = left_text 10 (codes "-")

abbrev pub value_cell : Kind → ℕ → ℕ → List ℕ
value_cell Load width v = right width v
value_cell Store width v = right width v
value_cell Fence width v = right_text width (codes "-")

-- a record in the table
abbrev pub record_words : RecordRow → List ℕ
record_words r =
    codes "  " ++ (right 6 r.number ++ (codes "  P" ++ (left 2 r.record.processor ++ (codes "  " ++ (kind_cell r.record.kind ++ (codes "  " ++ (address_cell r.record.kind r.record.address ++ (codes "  " ++ (value_cell r.record.kind r.widths.value r.record.value ++ (codes "  " ++ (right r.widths.enter r.record.enter ++ (codes "  " ++ (right r.widths.commit r.record.commit ++ reading_cell r.reading)))))))))))))

-- no narrower than the headings, nor than any number below them
abbrev pub widths_of : List Record → Widths
widths_of rs = fold (λ w x. record {
  value = max w.value (length (decimal x.value));
  enter = max w.enter (length (decimal x.enter));
  commit = max w.commit (length (decimal x.commit));
}) record { value = 5; enter = 5; commit = 6 } rs

-- how many records there are, and the words above the columns
abbrev pub head_words : Widths → ℕ → List ℕ
head_words w count =
    codes "Records: " ++ (decimal count ++ (codes "\n  record  on   does   address     " ++ (right_text w.value (codes "value") ++ (codes "  " ++ (right_text w.enter (codes "enter") ++ (codes "  " ++ (right_text w.commit (codes "commit") ++ codes "  reads")))))))

abbrev pub table_words : Widths → List RecordRow → List ℕ
table_words w rs = head_words w (length rs) ++ (codes "\n" ++ lines record_words rs)

-- the row of the record with the number i + 1
abbrev pub IsRecordRow : List Record → ℕ → RecordRow → Type 0
IsRecordRow rs i r =
    (r.widths ≡ widths_of rs) × (r.number ≡ i + 1) × (r.record ≡ at rs (i + 1)) × IsReading r.record rs r.reading

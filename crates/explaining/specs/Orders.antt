-- The interleaving of an order, record by record. Assumes nothing.
use Rattle.std.specs.Prelude.{◌≡◌, ℕ, ◌+◌, cond, List, [], ◌++◌, length, take, codes, slice_index}
use Rattle.std.specs.Fmt.{decimal}
use Rattle.memory.specs.declared.records.Record.{Record}
use Rattle.memory.specs.Kinds.{is_store}
use Rattle.memory.specs.Reading.{Least}
use Rattle.memory.specs.Runs.{at}
use Rattle.finding.specs.Finding.{read_by}
use Rattle.telling.specs.Words.{operation_words, source_words}
use Rattle.explaining.specs.declared.contents.Cell.{Cell}
use Rattle.explaining.specs.declared.orders.Placement.{Placement}
use Rattle.explaining.specs.Memory.{cells, memory_words}
use Rattle.explaining.specs.Rows.{right}

-- behind a store, what memory then holds
abbrev pub memory_behind : Record → List Cell → List ℕ
memory_behind r cs = cond (is_store r.kind) (codes "\n           memory:" ++ memory_words cs) []

-- a record in its place
abbrev pub placement_words : Placement → List ℕ
placement_words p =
    codes "  " ++ (right 4 p.place ++ (codes ". record " ++ (decimal p.number ++ (codes ": P" ++ (decimal p.record.processor ++ (codes " " ++ (operation_words p.record ++ (source_words p.record.kind p.store ++ memory_behind p.record p.memory.items))))))))

-- the record that an order has at an index: with the store that it reads, if it reads one, and, for a store, with what memory holds after it and those before it
abbrev pub IsPlacement : List Record → List ℕ → ℕ → Placement → Type 0
IsPlacement rs order i p =
    (p.place ≡ i + 1) × (p.number ≡ slice_index order i) × (p.record ≡ at rs p.number) × Least (read_by p.record rs) (length rs) p.store × (p.memory.items ≡ cond (is_store p.record.kind) (cells rs (take (i + 1) order)) [])

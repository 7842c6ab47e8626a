-- A log as it is printed. Assumes nothing.
use Rattle.std.specs.Prelude.{◌≡◌, ℕ, ◌+◌, ◌-◌, false, cond, ◌&&◌, List, [], ◌∷◌, ◌++◌, codes, map, Ok, ◌==◌}
use Rattle.std.specs.Fmt.{decimal, digits}
use Rattle.std.specs.List.{flat_map}
use Rattle.memory.specs.declared.kinds.Kind.{Kind}
use Rattle.memory.specs.declared.kinds.Kind.TheVariants.{Load, Store, Fence}
use Rattle.memory.specs.declared.records.Entry.{Entry}
use Rattle.memory.specs.declared.records.Record.{Record}
use Rattle.memory.specs.Kinds.{kind_number}
use Rattle.memory.specs.Limits.{reading_limit}
use Rattle.logs.specs.declared.heads.Head.{Head}
use Rattle.logs.specs.declared.reading.Access.{Access}
use Rattle.logs.specs.Heads.{head_words}
use Rattle.logs.specs.Reading.{log_of}

-- what a record of this kind did with a value at an address; a fence has neither
abbrev pub done_words : Kind → ℕ → ℕ → List ℕ
done_words Load address value = codes "M[" ++ (digits 16 false address ++ (codes "] == " ++ decimal value))
done_words Store address value = codes "M[" ++ (digits 16 false address ++ (codes "] := " ++ decimal value))
done_words Fence address value = codes "sync"

-- when; any time is not said
abbrev pub stamp_words : ℕ → ℕ → List ℕ
stamp_words enter commit =
    cond (enter == 0 && commit == reading_limit - 1) [] (codes " @ " ++ (decimal enter ++ (codes ":" ++ decimal commit)))

-- the line of a record, without its end
unfoldable pub record_words : Record → List ℕ
record_words r = decimal r.processor ++ (codes ": " ++ (done_words r.kind r.address r.value ++ stamp_words r.enter r.commit))

-- the same with its end
abbrev pub line_words : Record → List ℕ
line_words r = record_words r ++ codes "\n"

-- a log as it is printed: the head lines, and a line for each record
unfoldable pub printed : Head → List Record → List ℕ
printed head records = head_words head ++ (codes "\n" ++ flat_map line_words records)

-- what was logged of a record
abbrev pub entry_of : Record → Entry
entry_of r = record { processor = r.processor; kind = kind_number r.kind; address = r.address; value = r.value; enter = r.enter; commit = r.commit }

-- entries on lines from the n-th on
abbrev pub on_lines : ℕ → List Entry → List Access
on_lines n [] = []
on_lines n (e ∷ es) = record { line = n; entry = e } ∷ on_lines (n + 1) es

-- printed, the records read as they are, from line 4 on, behind the head
abbrev pub ReadsBack : Head → List Record → Type 0
ReadsBack head records = log_of (printed head records) ≡ Ok (record { head = head; accesses = on_lines 4 (map entry_of records) })

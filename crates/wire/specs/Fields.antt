-- Bytes as fields. Assumes nothing.
use Rattle.std.specs.Prelude.{ℕ, zero, suc, ◌+◌, ◌*◌, Bool, true, false, cond, List, [], ◌∷◌, length, take, drop, Some, None, Ok, Err, Option, Result, ◌==◌, nat_le, slice_index}
use Rattle.memory.specs.declared.records.Entry.{Entry}
use Rattle.wire.specs.declared.faults.ByteFault.{ByteFault}
use Rattle.wire.specs.declared.fields.PaperHead.{PaperHead}
use Rattle.wire.specs.declared.fields.RunHead.{RunHead}
use Rattle.wire.specs.declared.fields.Text.{Text}
use Rattle.wire.specs.declared.fields.Text.TheVariants.{Run, Paper}
use Rattle.wire.specs.declared.fields.WrittenLine.{WrittenLine}
use Rattle.wire.specs.Bytes.{entry_in}
use Rattle.wire.specs.Tags.{run_head_tag, record_tag, run_end_tag, paper_head_tag, line_tag, order_tag, orphan_tag, paper_end_tag}

-- a field as it stands in bytes: whole, with its tag and its content, or cut short
pub data Piece : Type 0 where
  whole : ℕ → List ℕ → Piece
  broken : Piece

abbrev pub piece_on : Bool → ℕ → List ℕ → (Unit {0} → List Piece) → List Piece
piece_on true tag content rest = whole tag content ∷ rest tt
piece_on false tag content rest = broken ∷ []

-- the fields of the bytes, as far as k go
abbrev pub pieces_in : ℕ → List ℕ → List Piece
pieces_in zero bs = []
pieces_in (suc k) [] = []
pieces_in (suc k) (tag ∷ []) = broken ∷ []
pieces_in (suc k) (tag ∷ a ∷ []) = broken ∷ []
pieces_in (suc k) (tag ∷ a ∷ b ∷ bs) = piece_on (nat_le (a * 256 + b) (length bs)) tag (take (a * 256 + b) bs) (λ _. pieces_in k (drop (a * 256 + b) bs))

-- the fields of the bytes, one after the other; where one is cut short there is no other after it
unfoldable pub pieces : List ℕ → List Piece
pieces bs = pieces_in (length bs) bs

-- what a field is
pub data Sort : Type 0 where
  head_field record_field line_field order_field orphan_field end_field : Sort

-- what a tag stands for, in a run and in a paper
abbrev pub sort_of : Text → ℕ → Option Sort
sort_of Run tag =
    cond (tag == run_head_tag) (Some head_field)
    (cond (tag == record_tag) (Some record_field)
    (cond (tag == run_end_tag) (Some end_field) None))
sort_of Paper tag =
    cond (tag == paper_head_tag) (Some head_field)
    (cond (tag == line_tag) (Some line_field)
    (cond (tag == order_tag) (Some order_field)
    (cond (tag == orphan_tag) (Some orphan_field)
    (cond (tag == paper_end_tag) (Some end_field) None))))

-- and the tag of a field; a text has no field of the sorts with 0
abbrev pub tag_of : Text → Sort → ℕ
tag_of Run head_field = run_head_tag
tag_of Run record_field = record_tag
tag_of Run line_field = 0
tag_of Run order_field = 0
tag_of Run orphan_field = 0
tag_of Run end_field = run_end_tag
tag_of Paper head_field = paper_head_tag
tag_of Paper record_field = 0
tag_of Paper line_field = line_tag
tag_of Paper order_field = order_tag
tag_of Paper orphan_field = orphan_tag
tag_of Paper end_field = paper_end_tag

-- a field that was read: what it is, the place of its tag, its content
pub record Shown : Type 0 where
  pub sort : Sort
  pub place : ℕ
  pub content : List ℕ

abbrev pub fault_at : ℕ → ByteFault
fault_at at = record { place = at }

-- an end has no content
abbrev pub named : Option Sort → ℕ → List ℕ → Result Shown ByteFault
named None at c = Err (fault_at at)
named (Some end_field) at c = cond (length c == 0) (Ok (record { sort = end_field; place = at; content = [] })) (Err (fault_at at))
named (Some head_field) at c = Ok (record { sort = head_field; place = at; content = c })
named (Some record_field) at c = Ok (record { sort = record_field; place = at; content = c })
named (Some line_field) at c = Ok (record { sort = line_field; place = at; content = c })
named (Some order_field) at c = Ok (record { sort = order_field; place = at; content = c })
named (Some orphan_field) at c = Ok (record { sort = orphan_field; place = at; content = c })

-- the first of the fields that are left, from the place at on, or the fault where there is none
abbrev pub next_field : Text → ℕ → List Piece → Result Shown ByteFault
next_field t at [] = Err (fault_at at)
next_field t at (broken ∷ ps) = Err (fault_at at)
next_field t at (whole tag c ∷ ps) = named (sort_of t tag) at c

abbrev pub later : List Piece → List Piece
later [] = []
later (p ∷ ps) = ps

-- what a content of so many bytes says, in a field at a place
abbrev pub content_of : {X : Type 0} → ℕ → (List ℕ → X) → ℕ → List ℕ → Result X ByteFault
content_of size said at c = cond (length c == size) (Ok (said c)) (Err (fault_at at))

-- the entry that a record field at a place says
abbrev pub entry_of : ℕ → List ℕ → Result Entry ByteFault
entry_of = content_of 30 entry_in

-- what the three bytes of a run's head say, these bytes, and what a head at a place says
abbrev pub run_head_in : List ℕ → RunHead
run_head_in c = record { processors = slice_index c 0; model = slice_index c 1; clock = slice_index c 2 }

abbrev pub run_head_content : RunHead → List ℕ
run_head_content h = h.processors ∷ h.model ∷ h.clock ∷ []

abbrev pub run_head_of : ℕ → List ℕ → Result RunHead ByteFault
run_head_of = content_of 3 run_head_in

-- what the four bytes of a paper's head say, these bytes, and what a head at a place says
abbrev pub paper_head_in : List ℕ → PaperHead
paper_head_in c = record { verdict = slice_index c 0; model = slice_index c 1; clock = slice_index c 2; records = slice_index c 3 }

abbrev pub paper_head_content : PaperHead → List ℕ
paper_head_content h = h.verdict ∷ h.model ∷ h.clock ∷ h.records ∷ []

abbrev pub paper_head_of : ℕ → List ℕ → Result PaperHead ByteFault
paper_head_of = content_of 4 paper_head_in

-- what the four bytes of a written line say, these bytes, and what a line at a place says
abbrev pub line_in : List ℕ → WrittenLine
line_in c = record { rule = slice_index c 0; first = slice_index c 1; second = slice_index c 2; third = slice_index c 3 }

abbrev pub line_content : WrittenLine → List ℕ
line_content l = l.rule ∷ l.first ∷ l.second ∷ l.third ∷ []

abbrev pub written_line_of : ℕ → List ℕ → Result WrittenLine ByteFault
written_line_of = content_of 4 line_in

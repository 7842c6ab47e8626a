-- Numbers, runs, slips, papers and notices as bytes. Assumes nothing.
use Rattle.std.specs.Prelude.{ℕ, zero, suc, ◌+◌, ◌*◌, ◌/◌, ◌%◌, List, [], ◌∷◌, ◌++◌, length, take, drop, Option, slice_index}
use Rattle.std.specs.List.{flat_map}
use Rattle.memory.specs.declared.lines.Line.{Line}
use Rattle.memory.specs.declared.records.Entry.{Entry}
use Rattle.memory.specs.declared.records.Record.{Record}
use Rattle.memory.specs.declared.refusals.Fault.{Fault}
use Rattle.memory.specs.declared.verdicts.Verdict.{Verdict}
use Rattle.memory.specs.Admission.{logged}
use Rattle.memory.specs.Numbers.{rule_number, verdict_number, refusal_number, layer_number}
use Rattle.wire.specs.Tags.{run_head_tag, record_tag, run_end_tag, paper_head_tag, line_tag, order_tag, orphan_tag, slip_tag, notice_tag, paper_end_tag}

-- n in w bytes, the highest first
abbrev pub digits : ℕ → ℕ → List ℕ
digits zero n = []
digits (suc w) n = digits w (n / 256) ++ n % 256 ∷ []

-- the number that bytes write, after those that wrote n
abbrev pub number_on : ℕ → List ℕ → ℕ
number_on n [] = n
number_on n (b ∷ bs) = number_on (n * 256 + b) bs

-- the number in the w bytes from a place on
abbrev pub number_at : List ℕ → ℕ → ℕ → ℕ
number_at bs at w = number_on 0 (take w (drop at bs))

-- a field: its tag, its length in two bytes, its content
abbrev pub field : ℕ → List ℕ → List ℕ
field tag content = tag ∷ (digits 2 (length content) ++ content)

-- the fields of all elements, one after the other
abbrev pub all_of : {X : Type 0} → (X → List ℕ) → List X → List ℕ
all_of f xs = flat_map f xs

-- the 30 bytes of an entry, and what 30 bytes say
abbrev pub entry_bytes : Entry → List ℕ
entry_bytes e = e.processor ∷ e.kind ∷ (digits 4 e.address ++ (digits 8 e.value ++ (digits 8 e.enter ++ digits 8 e.commit)))

abbrev pub entry_in : List ℕ → Entry
entry_in c = record { processor = slice_index c 0; kind = slice_index c 1; address = number_at c 2 4; value = number_at c 6 8; enter = number_at c 14 8; commit = number_at c 22 8 }

abbrev pub record_field : Record → List ℕ
record_field r = field record_tag (entry_bytes (logged r))

-- a run of p processors under two marks: a head, its records, an end
abbrev pub run_head : ℕ → ℕ → ℕ → List ℕ
run_head p model clock = field run_head_tag (p ∷ model ∷ clock ∷ [])

abbrev pub run_bytes : ℕ → ℕ → ℕ → List Record → List ℕ
run_bytes p model clock rs = run_head p model clock ++ (all_of record_field rs ++ field run_end_tag [])

-- a slip: the verdict and the total of steps
abbrev pub slip_bytes : Option Verdict → ℕ → List ℕ
slip_bytes v steps = field slip_tag (verdict_number v ∷ digits 8 steps)

-- a paper: a head with the verdict's number, two marks and the number of records, a body, an end
abbrev pub paper_bytes : ℕ → ℕ → ℕ → ℕ → List ℕ → List ℕ
paper_bytes verdict model clock n body = field paper_head_tag (verdict ∷ model ∷ clock ∷ n ∷ []) ++ (body ++ field paper_end_tag [])

-- a line: its rule's number, its first, its second, its third
abbrev pub line_bytes : Line → List ℕ
line_bytes l = rule_number l.rule ∷ l.first ∷ l.second ∷ l.third ∷ []

abbrev pub line_field : Line → List ℕ
line_field l = field line_tag (line_bytes l)

-- the bodies of an order, of opposed lines and of an orphan
abbrev pub order_body : List ℕ → List ℕ
order_body order = field order_tag order

abbrev pub lines_body : List Line → List ℕ
lines_body = all_of line_field

abbrev pub orphan_body : ℕ → List ℕ
orphan_body l = field orphan_tag (l ∷ [])

-- a notice of a refusal: number, layer, place in 4 bytes
abbrev pub notice_bytes : Fault → List ℕ
notice_bytes f = field notice_tag (refusal_number f.refusal ∷ layer_number f.layer ∷ digits 4 f.place)

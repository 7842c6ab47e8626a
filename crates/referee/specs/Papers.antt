-- Judging a paper beside the records of its run. Assumes nothing.
use Rattle.std.specs.Prelude.{ℕ, ◌+◌, Bool, true, false, cond, ◌&&◌, List, [], ◌∷◌, ◌++◌, length, Some, None, Ok, Err, Option, Result, ◌==◌, nat_lt, slice_index}
use Rattle.memory.specs.declared.lines.Line.{Line}
use Rattle.memory.specs.declared.records.Record.{Record}
use Rattle.memory.specs.declared.refusals.Refusal.TheVariants as refuse
use Rattle.memory.specs.declared.verdicts.Verdict.{Verdict}
use Rattle.memory.specs.declared.verdicts.Verdict.TheVariants.{Order, Opposed, Orphan}
use Rattle.memory.specs.Reading.{names_orphan}
use Rattle.memory.specs.Runs.{Run, Setting, run_of}
use Rattle.wire.specs.declared.faults.ByteFault.{ByteFault}
use Rattle.wire.specs.declared.faults.PaperFault.{PaperFault}
use Rattle.wire.specs.declared.faults.PaperFault.TheVariants.{Bytes, Foreign, Conclusion}
use Rattle.wire.specs.declared.fields.PaperHead.{PaperHead}
use Rattle.wire.specs.declared.fields.Text.TheVariants.{Paper}
use Rattle.wire.specs.declared.fields.WrittenLine.{WrittenLine}
use Rattle.wire.specs.Fields.{Piece, pieces, Sort, head_field, line_field, order_field, orphan_field, end_field, Shown, fault_at, next_field, later, paper_head_of, written_line_of}
use Rattle.search.specs.Orders.{legal_order}
use Rattle.referee.specs.declared.papers.Claim.{Claim}
use Rattle.referee.specs.declared.papers.Claim.TheVariants as claim
use Rattle.referee.specs.Lines.{founded_line, last_opposed}

-- the lines that were founded, up to the end or the fault, and the verdict of an accepted paper, or the fault
pub record Judged : Type 0 where
  pub lines : List Line
  pub answer : Result Verdict PaperFault

abbrev pub judged : List Line → Result Verdict PaperFault → Judged
judged ls a = record { lines = ls; answer = a }

abbrev pub malformed : ℕ → PaperFault
malformed at = Bytes (fault_at at)

-- The conclusion.

-- behind the end field, which has the place at, no byte may follow, of n in all; then the conclusion stands or falls
abbrev pub concluded : ℕ → Bool → Verdict → ℕ → Result Verdict PaperFault
concluded n stands v at =
    cond (nat_lt (at + 3) n) (Err (malformed (at + 3)))
    (cond stands (Ok v) (Err (Conclusion refuse.Hollow at)))

-- where the end field is due, any other is misplaced
abbrev pub end_sort : Sort → ℕ → Bool → Verdict → Shown → Result Verdict PaperFault
end_sort end_field n stands v f = concluded n stands v f.place
end_sort s n stands v f = Err (malformed f.place)

abbrev pub end_due : ℕ → Bool → Verdict → Result Shown ByteFault → Result Verdict PaperFault
end_due n stands v (Ok f) = end_sort f.sort n stands v f
end_due n stands v (Err e) = Err (Bytes e)

-- The bodies of an order and of an orphan: one field, then the end.

-- an order field with a number for each record; the order must be legal
abbrev pub order_sort : Sort → Run → ℕ → Shown → List Piece → Result Verdict PaperFault
order_sort order_field R n f ps =
    cond (length f.content == R.size) (end_due n (legal_order R f.content) Order (next_field Paper (f.place + 3 + length f.content) ps))
    (Err (malformed f.place))
order_sort s R n f ps = Err (malformed f.place)

abbrev pub order_due : Run → ℕ → Result Shown ByteFault → List Piece → Result Verdict PaperFault
order_due R n (Ok f) ps = order_sort f.sort R n f ps
order_due R n (Err e) ps = Err (Bytes e)

-- an orphan field with one number; that record must be an orphan
abbrev pub orphan_sort : Sort → List Record → ℕ → Shown → List Piece → Result Verdict PaperFault
orphan_sort orphan_field rs n f ps =
    let l = slice_index f.content 0 in
    cond (length f.content == 1) (end_due n (names_orphan rs l) (Orphan l) (next_field Paper (f.place + 3 + length f.content) ps))
    (Err (malformed f.place))
orphan_sort s rs n f ps = Err (malformed f.place)

abbrev pub orphan_due : List Record → ℕ → Result Shown ByteFault → List Piece → Result Verdict PaperFault
orphan_due rs n (Ok f) ps = orphan_sort f.sort rs n f ps
orphan_due rs n (Err e) ps = Err (Bytes e)

-- The body of opposed lines: any number of lines, then the end.

-- a founded line is listed, and the next field follows
abbrev pub line_founded : Option Line → ℕ → List Line → (List Line → Judged) → Judged
line_founded (Some l) at ls rest = rest (ls ++ l ∷ [])
line_founded None at ls rest = judged ls (Err (Conclusion refuse.Unfounded at))

-- a place for it comes first
abbrev pub line_placed : Bool → Option Line → ℕ → List Line → (List Line → Judged) → Judged
line_placed true found at ls rest = line_founded found at ls rest
line_placed false found at ls rest = judged ls (Err (Conclusion refuse.Short at))

abbrev pub line_read : Result WrittenLine ByteFault → Run → ℕ → ℕ → List Line → (List Line → Judged) → Judged
line_read (Ok w) R places at ls rest = line_placed (nat_lt (length ls) places) (founded_line R ls w) at ls rest
line_read (Err e) R places at ls rest = judged ls (Err (Bytes e))

abbrev pub lines_sort : Sort → Run → ℕ → ℕ → List Line → Shown → (List Line → Judged) → Judged
lines_sort line_field R places n ls f rest = line_read (written_line_of f.place f.content) R places f.place ls rest
lines_sort end_field R places n ls f rest = judged ls (concluded n (last_opposed ls) Opposed f.place)
lines_sort s R places n ls f rest = judged ls (Err (malformed f.place))

abbrev pub lines_field : Run → ℕ → ℕ → List Line → Result Shown ByteFault → (List Line → ℕ → Judged) → Judged
lines_field R places n ls (Ok f) rest = lines_sort f.sort R places n ls f (λ more. rest more (f.place + 3 + length f.content))
lines_field R places n ls (Err e) rest = judged ls (Err (Bytes e))

-- the fields from the place at on, with a list of so many places
unfoldable pub lines_due : Run → ℕ → ℕ → List Line → ℕ → List Piece → Judged
lines_due R places n ls at [] = judged ls (Err (malformed at))
lines_due R places n ls at (p ∷ ps) = lines_field R places n ls (next_field Paper at (p ∷ ps)) (λ more next. lines_due R places n more next ps)

-- The head.

-- what a paper of this verdict claims, if there is one
abbrev pub claim_at : ℕ → Option Claim
claim_at v =
    cond (v == 1) (Some claim.Order)
    (cond (v == 2) (Some claim.Opposed)
    (cond (v == 3) (Some claim.Orphan) None))

-- the marks, and the number of records
abbrev pub head_fits : Setting → ℕ → PaperHead → Bool
head_fits S count h = h.model == S.model_mark && (h.clock == S.clock_mark && h.records == count)

abbrev pub claim_by : Option Claim → Bool → ℕ → Result Claim PaperFault
claim_by None fits at = Err (malformed at)
claim_by (Some c) fits at = cond fits (Ok c) (Err Foreign)

abbrev pub claim_read : Setting → ℕ → ℕ → Result PaperHead ByteFault → Result Claim PaperFault
claim_read S count at (Ok h) = claim_by (claim_at h.verdict) (head_fits S count h) at
claim_read S count at (Err e) = Err (Bytes e)

abbrev pub claim_sort : Sort → Setting → ℕ → Shown → Result Claim PaperFault
claim_sort head_field S count f = claim_read S count f.place (paper_head_of f.place f.content)
claim_sort s S count f = Err (malformed f.place)

-- a first field that is no head ends the reading there
abbrev pub first_claim : Setting → ℕ → Result Shown ByteFault → Result Claim PaperFault
first_claim S count (Ok f) = claim_sort f.sort S count f
first_claim S count (Err e) = Err (Bytes e)

-- All of it.

-- the body that the claim fixes, behind a head of 7 bytes
abbrev pub judge_body : Result Claim PaperFault → Setting → List Record → ℕ → ℕ → List Piece → Judged
judge_body (Err f) S rs places n ps = judged [] (Err f)
judge_body (Ok claim.Order) S rs places n ps = judged [] (order_due (run_of S rs) n (next_field Paper 7 ps) (later ps))
judge_body (Ok claim.Opposed) S rs places n ps = lines_due (run_of S rs) places n [] 7 ps
judge_body (Ok claim.Orphan) S rs places n ps = judged [] (orphan_due rs n (next_field Paper 7 ps) (later ps))

-- the bytes of a paper, judged beside the records of its run, with a list of so many places for its lines
abbrev pub judge_paper : Setting → List Record → ℕ → List ℕ → Judged
judge_paper S rs places bs = judge_body (first_claim S (length rs) (next_field Paper 0 (pieces bs))) S rs places (length bs) (later (pieces bs))

-- What the private parts of judging promise one another. Assumes nothing.
use Rattle.std.specs.Prelude.{◌≡◌, ℕ, ◌+◌, List, length, Ok, Err, Result}
use Rattle.memory.specs.declared.lines.Line.{Line}
use Rattle.memory.specs.Runs.{Run}
use Rattle.wire.specs.declared.faults.ByteFault.{ByteFault}
use Rattle.wire.specs.declared.faults.PaperFault.{PaperFault}
use Rattle.wire.specs.declared.fields.WrittenLine.{WrittenLine}
use Rattle.wire.specs.Fields.{Shown}
use Rattle.lists.specs.declared.lent.LentList.{LentList}
use Rattle.lists.specs.Lists.{entries, rest, Grown}
use Rattle.referee.specs.Papers.{Judged, judged, line_read}

-- the reader stands behind the field
abbrev pub Behind : ℕ → Shown → Type 0
Behind at f = at ≡ f.place + 3 + length f.content

-- with the lines that are listed now the next field follows, or the judging ends
abbrev pub went_on : Result (Unit {0}) PaperFault → List Line → (List Line → Judged) → Judged
went_on (Ok u) ls rest = rest ls
went_on (Err f) ls rest = judged ls (Err f)

-- a line was read, at a place: listed or not, as the definition says, in a list that had so many places at first
pub record LineTaken (R : Run) (w : Result WrittenLine ByteFault) (at : ℕ) (before after : LentList Line) (r : Result (Unit {0}) PaperFault) : Type 0 where
  pub read : (more : List Line → Judged) → line_read w R (length (entries before) + length (rest before)) at (entries before) more ≡ went_on r (entries after) more
  pub more : List Line
  pub grown : Grown before after more

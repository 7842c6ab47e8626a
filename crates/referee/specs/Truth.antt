-- When a paper is true of a run, and lines are. Assumes nothing.
use Rattle.std.specs.Prelude.{◌≡◌, ℕ, true, List, [], ◌∷◌, length, Some, Err, Ok, Result}
use Rattle.memory.specs.declared.records.Record.{Record}
use Rattle.memory.specs.declared.verdicts.Verdict.{Verdict}
use Rattle.memory.specs.declared.verdicts.Verdict.TheVariants.{Order, Opposed, Orphan, Exhausted}
use Rattle.memory.specs.declared.lines.Line.{Line}
use Rattle.memory.specs.Legal.{Legal, Claims}
use Rattle.memory.specs.Numbers.{verdict_number}
use Rattle.memory.specs.Reading.{names_orphan}
use Rattle.memory.specs.Runs.{Run, Setting, run_of}
use Rattle.wire.specs.Fields.{Piece, whole, broken, pieces, later, paper_head_content}
use Rattle.inference.specs.Worth.{Holds}

-- the content of the first field, where it is whole
abbrev pub first_content : List Piece → List ℕ
first_content [] = []
first_content (broken ∷ ps) = []
first_content (whole tag c ∷ ps) = c

-- the content of a paper's first field, which is its head
abbrev pub head_in : List ℕ → List ℕ
head_in paper = first_content (pieces paper)

-- the content of its second field: its order where it has one, or the number of its orphan
abbrev pub body_in : List ℕ → List ℕ
body_in paper = first_content (later (pieces paper))

-- the body of an orphan's paper is one number, and that record is an orphan; an order and opposed lines name none, and no paper shows that a
-- search has gone through everything
abbrev pub ShowsOrphan : List Record → List ℕ → Verdict → Type 0
ShowsOrphan rs body Order = Unit {0}
ShowsOrphan rs body Opposed = Unit {0}
ShowsOrphan rs body (Orphan l) = (body ≡ l ∷ []) × (names_orphan rs l ≡ true)
ShowsOrphan rs body Exhausted = ⊥

-- a paper is true of the run of these records, with a verdict
pub record TrueWith (S : Setting) (rs : List Record) (paper : List ℕ) (v : Verdict) : Type 0 where
  -- the paper's head says this verdict, the marks of model and clock, and how many records there are
  pub said : head_in paper ≡ paper_head_content (record { verdict = verdict_number (Some v); model = S.model_mark; clock = S.clock_mark; records = length rs })
  -- what it claims of the run is true: the order in the paper is legal, or the run has no legal order
  pub claim : Claims (run_of S rs) (body_in paper) (Some v)
  -- the orphan is the one that the paper names, and is one
  pub shown : ShowsOrphan rs (body_in paper) v

-- an accepted paper is true, with the verdict that is answered; a refusal says nothing
abbrev pub TrueOf : {E : Type 0} → Setting → List Record → List ℕ → Result Verdict E → Type 0
TrueOf S rs paper (Ok v) = TrueWith S rs paper v
TrueOf S rs paper (Err e) = Unit {0}

-- lines hold in every legal order of the run, of which there may be none
abbrev pub AllHold : Run → List Line → Type 0
AllHold R ls = (order : List ℕ) → Legal R order → Holds ls order

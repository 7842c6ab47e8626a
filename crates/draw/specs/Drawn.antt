-- Which run is drawn, and that nothing is of one that is refused. Assumes nothing.
use Rattle.std.specs.Prelude.{◌≡◌, ℕ, ◌+◌, List, take, Some, None, Option, IfSome}
use Rattle.memory.specs.declared.refusals.Fault.{Fault}
use Rattle.memory.specs.Limits.{input_limit}
use Rattle.judging.specs.Marked.{marked}
use Rattle.deciding.specs.declared.Report.{Report}
use Rattle.deciding.specs.Reports.{Reports, refusal_of}

-- where a run is refused, what was written is as before
abbrev pub Untouched : Option Fault → Option (List ℕ) → Option (List ℕ) → Type 0
Untouched None old new = Unit {0}
Untouched (Some f) old new = new ≡ old

-- of the first bytes, which are a run searched so many steps, it is given why the run is refused, if it is
pub record Draws (input : List ℕ) (steps : ℕ) (old new : Option (List ℕ)) (refusal : Option Fault) : Type 0 where
  pub report : Report
  pub reports : let bytes = take input_limit input in Reports (marked bytes) bytes steps report
  pub says : refusal ≡ refusal_of report.ruling
  pub untouched : Untouched refusal old new

abbrev pub DrawsKnown : Option (List ℕ) → ℕ → Option (List ℕ) → Option (List ℕ) → Option Fault → Type 0
DrawsKnown of_input steps old new refusal = IfSome of_input (λ xs. Draws (take (input_limit + 1) xs) steps old new refusal)

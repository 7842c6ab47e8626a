-- What is told of two readers whose bytes are known.
use Rattle.std.proofs.Common.{◌≡◌, ℕ, List, take, Some, None, Option, Result, IfSome, ap, ◌∙◌, subst}
use Rattle.std.specs.declared.process.ExitCode.{ExitCode}
use Rattle.memory.specs.declared.verdicts.Verdict.{Verdict}
use Rattle.referee.specs.declared.faults.RefereeFault.{RefereeFault}
use Rattle.intake.specs.Limits.{file_limit}
use Rattle.judging.specs.Marked.{answer_of}
use Rattle.recheck.specs.Told.{Tells, TellsKnown}

pub known : (of_run of_paper old new : Option (List ℕ)) (run paper : List ℕ) (answer : Result Verdict RefereeFault) (status : ExitCode) → IfSome of_run (λ xs. run ≡ take file_limit xs) → IfSome of_paper (λ ys. paper ≡ take file_limit ys) → answer ≡ answer_of run paper → Tells answer old new status → TellsKnown of_run of_paper old new status
known None of_paper old new run paper answer status is_run is_paper is told = tt
known (Some xs) None old new run paper answer status is_run is_paper is told = tt
known (Some xs) (Some ys) old new run paper answer status is_run is_paper is told = subst (λ a. Tells a old new status) (is ∙ (ap (λ r. answer_of r paper) is_run ∙ ap (answer_of (take file_limit xs)) is_paper)) told

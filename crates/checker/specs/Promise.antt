-- The promise: what holds of a case after every history of calls on it, and of the referee whatever it is handed. Assumes nothing.
use Rattle.std.specs.Prelude.{◌≡◌, ℕ, ◌-◌, ◌*◌, ◌≤◌, true, List, ◌++◌, length, Some}
use Rattle.std.specs.Result.{result_ok}
use Rattle.memory.specs.declared.records.Record.{Record}
use Rattle.memory.specs.declared.verdicts.Verdict.{Verdict}
use Rattle.memory.specs.Admission.{opens, admits, sized}
use Rattle.memory.specs.Legal.{Legal, Claims}
use Rattle.memory.specs.Limits.{most_records, most_lines}
use Rattle.memory.specs.Runs.{Setting, run_of}
use Rattle.inference.specs.Worth.{Holds}
use Rattle.search.specs.Steps.{F}
use Rattle.stages.specs.declared.Stage.TheVariants.{Decided}
use Rattle.stages.specs.Stages.{verdict_at}
use Rattle.case.specs.State.{State}
use Rattle.case.specs.Calls.{opening, run_in, paper_in}
use Rattle.referee.specs.Ruling.{ruling}
use Rattle.referee.specs.Truth.{TrueOf}
use Rattle.checker.specs.History.{Invocation, Reckoning, from_opening, after, reckoned}

-- a case that is s, where the caller reckons a
pub record SoundDecidedInTimeAndAccepted (S : Setting) (s : State) (a : Reckoning) : Type 0 where
  -- it holds just the admitted records, and as many processors
  pub processors : s.processors ≡ a.processors
  pub records : s.records ≡ a.records
  -- each listed line holds in every legal order of every run that continues the admitted records, these alone included
  pub lines : (more : List Record) → admits a.processors a.records more ≡ true → (order : List ℕ) → Legal (run_of S (a.records ++ more)) order → Holds s.lines order
  -- n records have at most n × (n − 1) lines
  pub few : length s.lines ≤ length a.records * (length a.records - 1)
  -- its verdict is opposed lines, an orphan or exhausted only where the admitted records have no legal order, and an order only where
  -- the placed records are a legal order of theirs
  pub verdict : Claims (run_of S a.records) s.standing.placed (verdict_at s.stage)
  -- with n records it is decided once the searches that were not refused have asked for 2 × F n steps in all
  pub decided : 2 * F (length a.records) ≤ a.asked → (v : Verdict) × (s.stage ≡ Decided v)
  -- its total is the sum of the steps that the searches answered
  pub total : s.total ≡ a.answered
  -- the referee accepts the paper that it writes beside the run that it writes, reads just the admitted records, and gives the verdict of the
  -- case, where there are places for as many records and lines as any case has; in the code an address has 32 bits and a value 64
  pub accepted : sized a.records ≡ true → (paper : List ℕ) → paper_in S.model_mark S.clock_mark s ≡ Some paper → (record_places line_places : ℕ) → most_records ≤ record_places → most_lines ≤ line_places →
      let r = ruling S record_places line_places (run_in S.model_mark S.clock_mark s) paper in (r.records ≡ a.records) × (result_ok r.answer ≡ verdict_at s.stage)

-- whatever the case was before: after every opening that is not refused, and then any calls
abbrev pub AfterEveryHistory : Setting → Type 0
AfterEveryHistory S =
    (before : State) (p : ℕ) → opens p ≡ true → (calls : List Invocation) →
    let s = (opening before p).state in SoundDecidedInTimeAndAccepted S (after S s calls) (reckoned S s (from_opening p) calls)

-- whatever bytes the referee is handed, and however many places for records and lines: a paper that it accepts is true of the records that it read,
-- with the verdict that it answers
abbrev pub AcceptsOnlyTruePapers : Setting → Type 0
AcceptsOnlyTruePapers S = (record_places line_places : ℕ) (run paper : List ℕ) → let r = ruling S record_places line_places run paper in TrueOf S r.records paper r.answer

-- the promise
pub record VerdictsAndPapersAreTrue (S : Setting) : Type 0 where
  pub histories : AfterEveryHistory S
  pub referee : AcceptsOnlyTruePapers S

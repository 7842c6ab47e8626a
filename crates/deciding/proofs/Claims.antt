-- What the verdict of a report claims is true. Assumes nothing.
use Rattle.std.proofs.Common.{◌≡◌, ℕ, List, Ok, Option, refl, sym, subst}
use Rattle.memory.specs.declared.verdicts.Verdict.{Verdict}
use Rattle.memory.specs.Clocks.{LawfulClock}
use Rattle.memory.specs.Legal.{Claims}
use Rattle.memory.specs.Runs.{Setting, run_of}
use Rattle.stages.specs.Stages.{verdict_at}
use Rattle.case.specs.State.{State, opened}
use Rattle.case.specs.Calls.{inferring}
use Rattle.case.specs.Loading.{loading}
use Rattle.checker.specs.Output.{to_the_end}
use Rattle.checker.proofs.Good.{Good, good_opened, good_claims, good_infer, good_search}
use Rattle.checker.proofs.Loaded.{good_loading}
use Rattle.deciding.specs.declared.Report.{Report}
use Rattle.deciding.specs.Reports.{decided, reported, ruled, Shows, RulingClaims, Reports}

module _ (S : Setting) (law : LawfulClock S.earlier) (bytes : List ℕ) (steps : ℕ) (r : Report) where
  abbrev loaded : State
  loaded = (loading S.model_mark S.clock_mark (opened 1) bytes).state

  abbrev t : State
  t = decided S steps loaded

  good : Good S t
  good = good_search S (inferring S loaded to_the_end).state (good_infer S loaded (good_loading S S.model_mark S.clock_mark (opened 1) (good_opened S 1 refl) bytes) to_the_end) law steps

  -- the report of a case that was loaded and decided
  pub decided_report : (v : Option Verdict) → (loading S.model_mark S.clock_mark (opened 1) bytes).answer ≡ Ok v → Shows S t r → r.ruling ≡ Ok (verdict_at t.stage) → Reports S bytes steps r
  decided_report v is shows ruling = record {
    shows = subst (λ a. Shows S (reported S steps a loaded) r) (sym is) shows;
    ruling = subst (λ a. r.ruling ≡ ruled a (reported S steps a loaded)) (sym is) ruling;
    claims = subst (RulingClaims S r) (sym ruling) (subst (λ p. Claims (run_of S r.records.items) p (verdict_at t.stage)) (sym shows.placed) (subst (λ rs. Claims (run_of S rs) t.standing.placed (verdict_at t.stage)) (sym shows.records) (good_claims S t good)));
  }

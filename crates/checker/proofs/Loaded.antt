-- Loading leaves a good case, and so the verdict that is written claims nothing false. Assumes nothing.
use Rattle.std.proofs.Common.{◌≡◌, ℕ, List, Ok, Err, Option, Result, refl}
use Rattle.memory.specs.declared.verdicts.Verdict.{Verdict}
use Rattle.memory.specs.Clocks.{LawfulClock}
use Rattle.memory.specs.Limits.{program_steps}
use Rattle.memory.specs.Runs.{Setting}
use Rattle.wire.specs.declared.faults.RunFault.{RunFault}
use Rattle.stages.specs.declared.Stage.TheVariants.{Open}
use Rattle.case.specs.State.{State, opened}
use Rattle.case.specs.Calls.{inferring}
use Rattle.case.specs.Loading.{loading}
use Rattle.case.proofs.More.{loading_keep}
use Rattle.checker.specs.Output.{to_the_end, concluded, WrittenClaims, OutputClaims}
use Rattle.checker.proofs.Good.{Good, good_opened, good_claims, good_record, good_infer, good_sealed, good_search}

-- a good case that is open
abbrev GoodOpen : Setting → State → Type 0
GoodOpen S s = Good S s × (s.stage ≡ Open)

pub good_loading : (S : Setting) (model clock : ℕ) (s : State) → Good S s → (bs : List ℕ) → Good S (loading model clock s bs).state
good_loading S =
    loading_keep (GoodOpen S) (Good S) (λ p ok. (good_opened S p ok, refl)) (λ s e r is h. (good_record S s h.0 h.1 e r is, h.1)) (λ s h. h.0) (λ s h. good_sealed S s h.0 h.1)

pub output_claims : (S : Setting) → LawfulClock S.earlier → (bs : List ℕ) → OutputClaims S bs
output_claims S law bs = let o = loading S.model_mark S.clock_mark (opened 1) bs in by o.answer o.state (good_loading S S.model_mark S.clock_mark (opened 1) (good_opened S 1 refl) bs)
  where
    by : (r : Result (Option Verdict) RunFault) (s : State) → Good S s → WrittenClaims S r s
    by (Ok v) s h = good_claims S (concluded S s) (good_search S (inferring S s to_the_end).state (good_infer S s h to_the_end) law program_steps)
    by (Err f) s h = tt

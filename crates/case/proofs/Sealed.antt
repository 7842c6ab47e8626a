-- What the verdict of sealing claims is true. Assumes nothing.
use Rattle.std.proofs.Common.{ℕ, List, [], ◌∷◌, length, Some, None, Option}
use Rattle.std.specs.Option.{option_map}
use Rattle.memory.specs.declared.records.Record.{Record}
use Rattle.memory.specs.declared.verdicts.Verdict.TheVariants.{Orphan}
use Rattle.memory.specs.Legal.{Claims}
use Rattle.memory.specs.Reading.{orphan, first_orphan, Least}
use Rattle.memory.specs.Runs.{Setting, run_of}
use Rattle.memory.proofs.Least.{picked}
use Rattle.memory.proofs.Orphans.{orphan_none, empty_legal}
use Rattle.case.specs.Calls.{sealed_verdict}

orphan_claims : (S : Setting) (rs : List Record) (o : Option ℕ) → Least (orphan rs) (length rs) o → Claims (run_of S rs) [] (option_map Orphan o)
orphan_claims S rs None least = tt
orphan_claims S rs (Some l) (some, within, is, least) = orphan_none S rs l some within is

pub sealed_claims : (S : Setting) (rs : List Record) → Claims (run_of S rs) [] (sealed_verdict rs)
sealed_claims S [] = empty_legal S
sealed_claims S (r ∷ rs) = orphan_claims S (r ∷ rs) (first_orphan (r ∷ rs)) (picked (orphan (r ∷ rs)) (length (r ∷ rs)))

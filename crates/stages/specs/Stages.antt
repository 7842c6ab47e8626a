-- Which calls a stage lets through, to which stage a verdict leads, and the verdict at a stage. Assumes nothing.
use Rattle.std.specs.Prelude.{Some, None, Option}
use Rattle.std.specs.Option.{option_map_or}
use Rattle.memory.specs.declared.refusals.Refusal.{Refusal}
use Rattle.memory.specs.declared.refusals.Refusal.TheVariants as refuse
use Rattle.memory.specs.declared.verdicts.Verdict.{Verdict}
use Rattle.stages.specs.declared.Call.{Call}
use Rattle.stages.specs.declared.Call.TheVariants.{Admit, Infer, Seal, Search}
use Rattle.stages.specs.declared.Stage.{Stage}
use Rattle.stages.specs.declared.Stage.TheVariants.{Open, Sealed, Decided}

-- why a stage does not let a call through, if it does not
abbrev pub permits : Stage → Call → Option Refusal
permits Open Admit = None
permits Open Infer = None
permits Open Seal = None
permits Open Search = Some refuse.Unsealed
permits Sealed Admit = Some refuse.Sealed
permits Sealed Infer = None
permits Sealed Seal = Some refuse.Sealed
permits Sealed Search = None
permits (Decided v) Admit = Some refuse.Decided
permits (Decided v) Infer = Some refuse.Decided
permits (Decided v) Seal = Some refuse.Decided
permits (Decided v) Search = Some refuse.Decided

-- the stage that a verdict leads to, if there is one
abbrev pub stage_after : Option Verdict → Stage → Stage
stage_after verdict g = option_map_or Decided verdict g

abbrev pub verdict_at : Stage → Option Verdict
verdict_at Open = None
verdict_at Sealed = None
verdict_at (Decided v) = Some v

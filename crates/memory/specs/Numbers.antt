-- The numbers of rules, verdicts, refusals and layers.
use Rattle.std.specs.Prelude.{ℕ, cond, Some, None, Option, ◌==◌}
use Rattle.memory.specs.declared.lines.Rule.{Rule}
use Rattle.memory.specs.declared.lines.Rule.TheVariants.{Clock, Model, ReadsFrom, InitialRead, Coherence, FromRead, Transitive}
use Rattle.memory.specs.declared.verdicts.Verdict.{Verdict}
use Rattle.memory.specs.declared.verdicts.Verdict.TheVariants.{Order, Opposed, Orphan, Exhausted}
use Rattle.memory.specs.declared.refusals.Refusal.{Refusal}
use Rattle.memory.specs.declared.refusals.Refusal.TheVariants.{Malformed, Foreign, Decided, Sealed, Unsealed, Full, Stranger, Kind, Blank, Range, Backward, Twin, Spent, Bare, Short, Unfounded, Hollow}
use Rattle.memory.specs.declared.refusals.Layer.{Layer}
use Rattle.memory.specs.declared.refusals.Layer.TheVariants.{RunBytes, Content, PaperBytes, Conclusion}

abbrev pub rule_number : Rule → ℕ
rule_number Clock = 1
rule_number Model = 2
rule_number ReadsFrom = 3
rule_number InitialRead = 4
rule_number Coherence = 5
rule_number FromRead = 6
rule_number Transitive = 7

-- rules have the numbers 1 to this one
abbrev pub last_rule : ℕ
last_rule = 7

-- the rule with a number, if there is one
abbrev pub rule_at : ℕ → Option Rule
rule_at n =
    cond (n == 1) (Some Clock)
    (cond (n == 2) (Some Model)
    (cond (n == 3) (Some ReadsFrom)
    (cond (n == 4) (Some InitialRead)
    (cond (n == 5) (Some Coherence)
    (cond (n == 6) (Some FromRead)
    (cond (n == 7) (Some Transitive) None))))))

-- 0 is undecided
abbrev pub verdict_number : Option Verdict → ℕ
verdict_number None = 0
verdict_number (Some Order) = 1
verdict_number (Some Opposed) = 2
verdict_number (Some (Orphan l)) = 3
verdict_number (Some Exhausted) = 4

abbrev pub refusal_number : Refusal → ℕ
refusal_number Malformed = 1
refusal_number Foreign = 2
refusal_number Decided = 3
refusal_number Sealed = 4
refusal_number Unsealed = 5
refusal_number Full = 6
refusal_number Stranger = 7
refusal_number Kind = 8
refusal_number Blank = 9
refusal_number Range = 10
refusal_number Backward = 11
refusal_number Twin = 12
refusal_number Spent = 13
refusal_number Bare = 14
refusal_number Short = 15
refusal_number Unfounded = 16
refusal_number Hollow = 17

abbrev pub layer_number : Layer → ℕ
layer_number RunBytes = 1
layer_number Content = 2
layer_number PaperBytes = 3
layer_number Conclusion = 4

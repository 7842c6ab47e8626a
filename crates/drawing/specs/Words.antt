-- The words of a picture. Assumes nothing.
use Rattle.std.specs.Prelude.{ℕ, ◌/◌, ◌%◌, cond, List, ◌++◌, codes, Some, None, Option, ◌==◌}
use Rattle.std.specs.Fmt.{decimal}
use Rattle.memory.specs.declared.lines.Rule.{Rule}
use Rattle.memory.specs.declared.lines.Rule.TheVariants.{Clock, Model, ReadsFrom, InitialRead, Coherence, FromRead, Transitive}
use Rattle.memory.specs.declared.verdicts.Verdict.{Verdict}
use Rattle.memory.specs.declared.verdicts.Verdict.TheVariants.{Order, Opposed, Orphan, Exhausted}
use Rattle.telling.specs.Words.{claim_words}

-- a rule in short
abbrev pub rule_words : Rule → List ℕ
rule_words Clock = codes "clock"
rule_words Model = codes "program order"
rule_words ReadsFrom = codes "reads-from"
rule_words InitialRead = codes "initial read"
rule_words Coherence = codes "coherence"
rule_words FromRead = codes "from-read"
rule_words Transitive = codes "transitive"

-- what stands behind the last digit, where no teen does
abbrev pub ordinal_end : ℕ → List ℕ
ordinal_end digit = cond (digit == 1) (codes "st") (cond (digit == 2) (codes "nd") (cond (digit == 3) (codes "rd") (codes "th")))

-- the n-th: 11th, 12th and 13th are not 1st, 2nd and 3rd
abbrev pub ordinal_words : ℕ → List ℕ
ordinal_words n = decimal n ++ cond ((n % 100) / 10 == 1) (codes "th") (ordinal_end (n % 10))

-- what a verdict claims, above a picture, which shows an order by numbers
abbrev pub title_words : Option Verdict → List ℕ
title_words None = claim_words None
title_words (Some Order) = codes "The run has a legal order: the numbers on the right."
title_words (Some Opposed) = claim_words (Some Opposed)
title_words (Some (Orphan l)) = claim_words (Some (Orphan l))
title_words (Some Exhausted) = claim_words (Some Exhausted)

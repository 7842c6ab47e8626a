-- What writing leaves in lent bytes. Assumes nothing.
use Rattle.std.specs.Prelude.{◌≡◌, ℕ, ◌+◌, ◌*◌, ◌<◌, ◌≤◌, List, ◌++◌, length, drop, Some, Ok, Err, Result}
use Rattle.memory.specs.Limits.{most_lines}
use Rattle.memory.specs.Numbers.{verdict_number}
use Rattle.memory.specs.declared.verdicts.Verdict.{Verdict}
use Rattle.memory.specs.declared.verdicts.Verdict.TheVariants as verdict
use Rattle.wire.specs.declared.writing.TooShort.{TooShort}
use Rattle.wire.specs.declared.writing.Paper.{Paper}
use Rattle.wire.specs.declared.writing.Paper.TheVariants.{Order, Opposed, Orphan}
use Rattle.wire.specs.Bytes.{order_body, lines_body, orphan_body}

-- bs written into out: the first bytes are exactly these and the rest is as before; or there are too few, and all are as before
abbrev pub Written : List ℕ → List ℕ → List ℕ → Result ℕ TooShort → Type 0
Written bs out after (Ok n) = (n ≡ length bs) × (length bs ≤ length out) × (after ≡ bs ++ drop (length bs) out)
Written bs out after (Err s) = (length out < length bs) × (after ≡ out)

-- the verdict that a paper is of, its number, and the paper's body
abbrev pub paper_verdict : Paper → Verdict
paper_verdict (Order order) = verdict.Order
paper_verdict (Opposed ls) = verdict.Opposed
paper_verdict (Orphan l) = verdict.Orphan l

abbrev pub paper_number : Paper → ℕ
paper_number p = verdict_number (Some (paper_verdict p))

abbrev pub paper_body : Paper → List ℕ
paper_body (Order order) = order_body order.now
paper_body (Opposed ls) = lines_body ls.now
paper_body (Orphan l) = orphan_body l

-- the most bytes that the paper of a case has: a head of 7 and an end of 3, and 7 for each line
abbrev pub most_paper : ℕ
most_paper = 10 + 7 * most_lines

-- How long the paper of a case is at most. Assumes nothing.
use Rattle.std.proofs.Common.{ℕ, ◌≤◌, true, ◌≡◌, List, [], length, Some, None, Option, rules, arith, length-append}
use Rattle.std.specs.Option.{unwrap_or, option_map}
use Rattle.memory.specs.declared.lines.Line.{Line}
use Rattle.memory.specs.declared.verdicts.Verdict.{Verdict}
use Rattle.memory.specs.declared.verdicts.Verdict.TheVariants.{Order, Opposed, Orphan, Exhausted}
use Rattle.memory.specs.Limits.{most_records}
use Rattle.memory.specs.Numbers.{verdict_number}
use Rattle.wire.specs.Bytes.{field, lines_body, paper_bytes}
use Rattle.wire.specs.Tags.{paper_end_tag}
use Rattle.wire.specs.Written.{most_paper}
use Rattle.wire.proofs.InOrder.{lines_long}
use Rattle.inference.specs.Paired.{paired}
use Rattle.inference.proofs.Pairs.{few_lines_64}
use Rattle.search.specs.Placing.{distinct}
use Rattle.search.proofs.Distinct.{few_placed}
use Rattle.case.specs.Calls.{body_at}

pub papers_long : (model clock n : ℕ) (v : Option Verdict) (ls : List Line) (placed : List ℕ) → n ≤ most_records → paired n ls ≡ true → distinct n placed ≡ true → length (unwrap_or (option_map (paper_bytes (verdict_number v) model clock n) (body_at v ls placed)) []) ≤ most_paper
papers_long model clock n None ls placed few pairs apart = search rules
papers_long model clock n (Some Order) ls placed few pairs apart = omega (arith, few_placed n placed apart, length-append placed (field paper_end_tag []))
papers_long model clock n (Some Opposed) ls placed few pairs apart = omega (arith, few_lines_64 n ls few pairs, length-append (lines_body ls) (field paper_end_tag []), lines_long ls)
papers_long model clock n (Some (Orphan l)) ls placed few pairs apart = search rules
papers_long model clock n (Some Exhausted) ls placed few pairs apart = search rules

-- Each row of the table, by computing.
use Rattle.std.proofs.Common.{◌≡◌, ℕ, ◌<◌, List, length, [], Some, None, Ok, Err, Option, Result, unwrap_or, arith, refl}
use Rattle.memory.specs.declared.refusals.Fault.{Fault}
use Rattle.memory.specs.declared.refusals.Refusal.TheVariants.{Short}
use Rattle.wire.specs.Fields.{pieces}
use Rattle.inference.specs.Listing.{list_lines}
use Rattle.inference.specs.Next.{next}
use Rattle.search.specs.Placing.{takes}
use Rattle.search.specs.Steps.{walk}
use Rattle.case.specs.Calls.{paper_in, WroteSome}
use Rattle.case.specs.State.{State, case_fault}
use Rattle.case.specs.Loading.{load_fields}
use Rattle.referee.specs.Papers.{lines_due}
use Rattle.worked.specs.Table.{sc_global, message_inferred, WorkedExamples}
use Rattle.worked.specs.Worked.{worked}

-- lent bytes that are fewer than those of the paper
short : (s : State) (paper : Option (List ℕ)) (out new : List ℕ) (r : Result ℕ Fault) → length out < length (unwrap_or paper []) → WroteSome s paper out new r → (r ≡ Err (case_fault s Short)) × (new ≡ out)
short s None out new r few wrote = absurd (omega (arith, few))
short s (Some bs) out new (Ok n) few wrote = absurd (omega (arith, few, wrote.1))
short s (Some bs) out new (Err f) few wrote = (cc wrote.1, wrote.2)

abbrev opposed : State
opposed = worked sc_global message_inferred

paper_long : length (unwrap_or (paper_in 1 1 opposed) []) ≡ 52
unfolding next list_lines takes walk
paper_long = refl

pub examples : WorkedExamples
unfolding next list_lines takes walk pieces load_fields lines_due
examples = record {
  message = (refl, refl, refl, refl);
  message_written = refl;
  message_short = λ out new r long wrote. short opposed (paper_in 1 1 opposed) out new r (omega (arith, long, paper_long)) wrote;
  message_accepted = refl;
  message_hollow = refl;
  message_exhausted = (refl, refl, refl, refl);
  message_godson = (refl, refl, refl, refl);
  message_godson_written = refl;
  message_godson_searched = (refl, refl, refl, refl);
  stale_global = (refl, refl, refl, refl);
  stale_none = (refl, refl, refl, refl);
  four_records = refl;
  touching = (refl, refl, refl, refl);
  apart = (refl, refl, refl, refl);
}

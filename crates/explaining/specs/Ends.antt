-- What is said of an undecided run, of a refusal's place, and of the checker's answer. Assumes nothing.
use Rattle.std.specs.Prelude.{◌≡◌, ℕ, ◌+◌, ◌*◌, ◌<◌, ◌≤◌, ◌≢◌, List, ◌++◌, max, min, cond, nat_lt, ◌==◌, codes, Some, None, Option, MatchOption}
use Rattle.std.specs.Fmt.{decimal}
use Rattle.memory.specs.declared.refusals.Fault.{Fault}
use Rattle.memory.specs.declared.refusals.Layer.TheVariants.{Content}
use Rattle.memory.specs.declared.verdicts.Verdict.{Verdict}
use Rattle.memory.specs.Limits.{most_steps, program_steps}
use Rattle.search.specs.Steps.{F}
use Rattle.telling.specs.Words.{records_words}
use Rattle.explaining.specs.declared.ends.Spot.{Spot}
use Rattle.explaining.specs.declared.ends.Spot.TheVariants as spot
use Rattle.explaining.specs.declared.ends.Undecided.{Undecided}
use Rattle.explaining.specs.declared.ends.Answer.{Answer}
use Rattle.explaining.specs.declared.ends.Answer.TheVariants as answer

-- so many steps surely decide a run of n records; there is none where they are more than may be asked for
abbrev pub IsEnough : ℕ → Option ℕ → Type 0
IsEnough n o = MatchOption o (most_steps < 2 * F n) (λ k. (k ≡ 2 * F n) × (k ≤ most_steps))

abbrev pub enough_words : ℕ → Option ℕ → List ℕ
enough_words n (Some k) = decimal k ++ (codes " steps surely decide it. They are 2 x F(" ++ (decimal n ++ codes "), where F(0) = 1 and F(n) = 1 + n x F(n - 1)."))
enough_words n None = codes "The steps that surely decide it, 2 x F(" ++ (decimal n ++ codes ") where F(0) = 1 and F(n) = 1 + n x F(n - 1), are above 2^62.")

-- so many to ask for next: ten times as many, and a million at least, but no more than surely decide the run, and than may be asked for
abbrev pub next_steps : ℕ → Option ℕ → ℕ
next_steps steps (Some k) = min (min (10 * max steps 100000) most_steps) k
next_steps steps None = min (10 * max steps 100000) most_steps

abbrev pub IsUndecided : ℕ → ℕ → Undecided → Type 0
IsUndecided steps n u = (u.steps ≡ steps) × (u.records ≡ n) × IsEnough n u.enough × (u.next ≡ next_steps steps u.enough)

-- that so many steps did not decide a run of n records, and what to do next
abbrev pub undecided_words : ℕ → ℕ → ℕ → Option ℕ → List ℕ
undecided_words steps next n enough =
    codes "\nNothing is claimed after " ++ (decimal steps ++ (codes " steps: the run may have a legal order or none. To search further:\n\n  explain --steps " ++ (decimal next ++ (codes " < RUN\n\n" ++ enough_words n enough))))

-- which field of a run stands at the place of a fault before which n records were admitted: the head has 6 bytes, a record 33, and a fault neither in
-- the head nor right behind the records is one behind the end
abbrev pub IsSpot : ℕ → Fault → Spot → Type 0
IsSpot n f spot.Head = f.place < 6
IsSpot n f (spot.Record k) = (f.layer ≡ Content) × (f.place ≡ 6 + 33 * n) × (k ≡ n + 1)
IsSpot n f (spot.Field k) = (f.layer ≢ Content) × (f.place ≡ 6 + 33 * n) × (k ≡ n)
IsSpot n f spot.BehindEnd = (6 ≤ f.place) × (f.place ≢ 6 + 33 * n)

abbrev pub spot_words : Spot → List ℕ
spot_words spot.Head = codes "  That is the head, with which the run begins: nothing was admitted."
spot_words (spot.Record k) = codes "  There record " ++ (decimal k ++ codes " begins, which was not admitted.")
spot_words (spot.Field k) = codes "  There another record should begin, or the end, behind " ++ (records_words k ++ codes ".")
spot_words spot.BehindEnd = codes "  That is the first byte behind the end."

-- what the checker answers to a run under the mark of a clock, of this verdict after so many steps, with this paper: it serves the clock Global alone,
-- and makes just so many steps
abbrev pub answer_with : Option ℕ → Option Verdict → ℕ → Answer
answer_with (Some size) v steps = answer.Paper size
answer_with None (Some v) steps = answer.Slip
answer_with None None steps = cond (nat_lt steps program_steps) answer.Further answer.Slip

abbrev pub answer_told : ℕ → Option ℕ → Option Verdict → ℕ → Answer
answer_told clock size v steps = cond (clock == 1) (cond (nat_lt program_steps steps) answer.Stops (answer_with size v steps)) answer.Unserved

-- what the checker answers, and how its paper is rechecked
abbrev pub answer_words : Answer → List ℕ
answer_words (answer.Paper n) =
    codes "\nThe checker's answer is a slip of 12 bytes and then the paper, of " ++ (decimal n ++ codes ". To recheck it:\n\n  zielwart < RUN > ANSWER\n  tail -c +13 ANSWER > PAPER\n  recheck RUN PAPER")
answer_words answer.Slip = codes "\nThe checker's answer is a slip of 12 bytes alone: this verdict has no paper."
answer_words answer.Further = codes "\nThe checker, zielwart, searches " ++ (decimal program_steps ++ codes " steps, and so it may decide this run.")
answer_words answer.Stops = codes "\nThe checker, zielwart, stops after " ++ (decimal program_steps ++ codes " steps: its answer to this run is a slip that says undecided.")
answer_words answer.Unserved = codes "\nThe checker, zielwart, serves the clock Global alone, and refuses this run."

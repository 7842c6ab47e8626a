-- All that is told of a run. Assumes nothing.
use Rattle.std.specs.Prelude.{◌≡◌, ℕ, List, [], ◌++◌, length, cond, ◌==◌, codes, Some, None, Option, Ok, Err, Result}
use Rattle.std.specs.Option.{option_map}
use Rattle.std.specs.Fmt.{decimal}
use Rattle.memory.specs.declared.records.Record.{Record}
use Rattle.memory.specs.declared.refusals.Fault.{Fault}
use Rattle.memory.specs.declared.verdicts.Verdict.{Verdict}
use Rattle.memory.specs.declared.verdicts.Verdict.TheVariants.{Order, Opposed, Orphan, Exhausted}
use Rattle.memory.specs.Runs.{at}
use Rattle.wire.specs.declared.faults.RunFault.{RunFault}
use Rattle.wire.specs.Faults.{run_fault}
use Rattle.deciding.specs.declared.Report.{Report}
use Rattle.telling.specs.Words.{operation_words}
use Rattle.explaining.specs.declared.accounts.Account.{Account}
use Rattle.explaining.specs.declared.accounts.Findings.{Findings}
use Rattle.explaining.specs.declared.accounts.Outcome.{Outcome}
use Rattle.explaining.specs.declared.accounts.Outcome.TheVariants.{Loaded, Refused}
use Rattle.explaining.specs.declared.accounts.Why.{Why}
use Rattle.explaining.specs.declared.accounts.Why.TheVariants as why
use Rattle.explaining.specs.declared.ends.Answer.{Answer}
use Rattle.explaining.specs.declared.ends.Spot.{Spot}
use Rattle.explaining.specs.declared.headings.Under.{Under}
use Rattle.explaining.specs.declared.reasons.LineRow.{LineRow}
use Rattle.explaining.specs.Ends.{IsUndecided, IsSpot, answer_told, undecided_words, answer_words, spot_words}
use Rattle.explaining.specs.Headings.{heading_words, refusal_heading, verdict_lines, refusal_lines, bytes_words, reading_lines}
use Rattle.explaining.specs.Orders.{IsPlacement, placement_words}
use Rattle.explaining.specs.Reasons.{AreLineRows, AreCycleRows, line_words}
use Rattle.explaining.specs.Records.{widths_of, IsRecordRow, table_words}
use Rattle.explaining.specs.Rows.{AreRows, lines}

-- above a table: what came of the run, in a sentence and in numbers
abbrev pub loaded_top : Under → ℕ → Findings → List ℕ
loaded_top u given f =
    heading_words u.model u.clock f.steps f.verdict ++ (codes "\n\n" ++ (verdict_lines f.verdict f.steps ++ (codes "\n  processors: " ++ (decimal f.processors ++ (codes "\n" ++ (reading_lines u.model u.clock given ++ codes "\n"))))))

-- a refused head gives no model and no clock
abbrev pub refused_top : Under → ℕ → Fault → List ℕ
refused_top u given f =
    cond (f.place == 0)
    (refusal_heading f ++ (codes "\n\n  bytes: " ++ (bytes_words given ++ codes "\n")))
    (refusal_heading f ++ (codes "\n\n" ++ (reading_lines u.model u.clock given ++ codes "\n")))

-- below it, of a refused run
abbrev pub refused_end : Fault → Spot → List ℕ
refused_end f s = codes "\nThe run was refused:\n" ++ (refusal_lines f ++ (codes "\n" ++ spot_words s))

abbrev pub orphan_words : ℕ → Record → List ℕ
orphan_words n r = codes "\nWhy: record " ++ (decimal n ++ (codes " is a " ++ (operation_words r ++ codes ", and no store of the run writes that value there.")))

-- why the verdict stands, in a sentence
abbrev pub why_sentence : Why → List ℕ
why_sentence (why.Undecided u) = undecided_words u.steps u.next u.records u.enough
why_sentence (why.Order ps) = codes "\nWhy: this order of the records is legal (below each store what memory then holds; all else holds 0):"
why_sentence (why.Opposed ls) = codes "\nWhy: the last of these lines is opposed to another. Each follows from the records and the lines above it:"
why_sentence (why.Orphan o) = orphan_words o.number o.record
why_sentence why.Exhausted = codes "\nWhy: the search tried all orders that the model, the clock and the lines allow, record by record.\nIn each some load would not have the value of the last store before it."

-- and what it speaks of
abbrev pub why_rows : Why → List ℕ
why_rows (why.Undecided u) = []
why_rows (why.Order ps) = lines placement_words ps.items
why_rows (why.Opposed ls) = lines line_words ls.items
why_rows (why.Orphan o) = []
why_rows why.Exhausted = []

abbrev pub why_words : Why → List ℕ
why_words w = why_sentence w ++ (codes "\n" ++ why_rows w)

-- the lines that were inferred, below how many there are
abbrev pub lines_head : ℕ → List ℕ
lines_head n = codes "\nLines listed: " ++ decimal n

abbrev pub lines_words : List LineRow → List ℕ
lines_words ls = lines_head (length ls) ++ (codes "\n" ++ lines line_words ls)

-- and what the checker answers
abbrev pub answer_end : List LineRow → Answer → List ℕ
answer_end ls a = lines_words ls ++ (answer_words a ++ codes "\n")

abbrev pub end_words : Findings → List ℕ
end_words f = why_words f.why ++ answer_end f.lines.items f.answer

-- all of it
abbrev pub outcome_words : Account → Outcome → List ℕ
outcome_words a (Loaded f) = loaded_top a.under a.given f ++ (codes "\n" ++ (table_words a.widths a.records.items ++ end_words f))
outcome_words a (Refused r) = refused_top a.under a.given r.fault ++ (codes "\n" ++ (table_words a.widths a.records.items ++ (refused_end r.fault r.spot ++ codes "\n")))

abbrev pub account_words : Account → List ℕ
account_words a = outcome_words a a.outcome

-- Which account is told of a report.

abbrev pub IsWhy : Report → Option Verdict → Why → Type 0
IsWhy r None (why.Undecided u) = IsUndecided r.steps (length r.records.items) u
IsWhy r (Some Order) (why.Order ps) = AreRows (IsPlacement r.records.items r.placed.items) (length r.placed.items) ps.items
IsWhy r (Some Opposed) (why.Opposed ls) = AreCycleRows r.records.items r.lines.items r.model ls.items
IsWhy r (Some (Orphan l)) (why.Orphan o) = (o.number ≡ l) × (o.record ≡ at r.records.items l)
IsWhy r (Some Exhausted) why.Exhausted = Unit {0}
IsWhy r v w = ⊥

pub record AreFindings (r : Report) (v : Option Verdict) (f : Findings) : Type 0 where
  pub processors : f.processors ≡ r.processors
  pub verdict : f.verdict ≡ v
  pub steps : f.steps ≡ r.steps
  pub why : IsWhy r v f.why
  pub lines : AreLineRows r.records.items r.lines.items r.model f.lines.items
  pub answer : f.answer ≡ answer_told r.clock (option_map (λ p. length p.items) r.paper) v r.steps

abbrev pub IsOutcome : Report → Result (Option Verdict) RunFault → Outcome → Type 0
IsOutcome r (Ok v) (Loaded f) = AreFindings r v f
IsOutcome r (Err e) (Refused x) = (x.fault ≡ run_fault e) × IsSpot (length r.records.items) x.fault x.spot
IsOutcome r ruling o = ⊥

-- the account of a report of a run of which so many bytes were given
pub record IsAccount (r : Report) (given : ℕ) (a : Account) : Type 0 where
  pub model : a.under.model ≡ r.model
  pub clock : a.under.clock ≡ r.clock
  pub bytes : a.given ≡ given
  pub widths : a.widths ≡ widths_of r.records.items
  pub rows : AreRows (IsRecordRow r.records.items) (length r.records.items) a.records.items
  pub outcome : IsOutcome r r.ruling a.outcome

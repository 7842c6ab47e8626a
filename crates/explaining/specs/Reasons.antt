-- Why a line follows, in words. Assumes nothing.
use Rattle.std.specs.Prelude.{◌≡◌, ℕ, ◌+◌, slice_index, ◌<◌, ◌≤◌, List, [], ◌++◌, length, codes, Some, None, Option}
use Rattle.std.specs.Fmt.{decimal}
use Rattle.memory.specs.declared.lines.Line.{Line}
use Rattle.memory.specs.declared.lines.Rule.{Rule}
use Rattle.memory.specs.declared.lines.Rule.TheVariants.{Clock, Model, ReadsFrom, InitialRead, Coherence, FromRead, Transitive}
use Rattle.memory.specs.declared.records.Record.{Record}
use Rattle.memory.specs.Numbers.{rule_number}
use Rattle.memory.specs.Reading.{Least}
use Rattle.memory.specs.Runs.{at}
use Rattle.telling.specs.Words.{model_name, address_words}
use Rattle.finding.specs.Finding.{read_by, opposed_to}
use Rattle.finding.specs.Resting.{line_at, AreNeeded}
use Rattle.explaining.specs.Rows.{AreRows}
use Rattle.explaining.specs.declared.reasons.Reason.{Reason}
use Rattle.explaining.specs.declared.reasons.LineRow.{LineRow}

-- the record that a line of this rule rests on besides its two: its third or, by from-read, the store that the first reads, if it reads one
abbrev pub RestsOn : List Record → Line → Rule → Option ℕ → Type 0
RestsOn rs l Clock o = o ≡ Some l.third
RestsOn rs l Model o = o ≡ Some l.third
RestsOn rs l ReadsFrom o = o ≡ Some l.third
RestsOn rs l InitialRead o = o ≡ Some l.third
RestsOn rs l Coherence o = o ≡ Some l.third
RestsOn rs l FromRead o = Least (read_by (at rs l.first) rs) (length rs) o
RestsOn rs l Transitive o = o ≡ Some l.third

-- the reason of a line under the model with a mark; there is none only where the line names no records, or rests on a store that there is not
abbrev pub IsReason : List Record → Line → ℕ → Option Reason → Type 0
IsReason rs l m None = 0 < l.first → l.first ≤ length rs → 0 < l.second → l.second ≤ length rs → RestsOn rs l l.rule None
IsReason rs l m (Some r) = (r.line ≡ l) × (r.first ≡ at rs l.first) × (r.second ≡ at rs l.second) × (r.model ≡ m) × RestsOn rs l l.rule (Some r.rests_on)

-- by the clock, the first commits surely earlier than the second enters
abbrev pub clock_words : Line → Record → Record → List ℕ
clock_words l u v =
    decimal l.first ++ (codes " commits on P" ++ (decimal u.processor ++ (codes " at " ++ (decimal u.commit ++ (codes ", surely earlier than " ++ (decimal l.second ++ (codes " enters on P" ++ (decimal v.processor ++ (codes " at " ++ decimal v.enter)))))))))

-- by the model, both are of one processor
abbrev pub model_words : Line → Record → ℕ → List ℕ
model_words l u m =
    codes "both are of P" ++ (decimal u.processor ++ (codes ", " ++ (decimal l.first ++ (codes " is earlier in program order, and " ++ (model_name m ++ codes " orders them")))))

-- why the line l of a rule follows: u is its first record, v its second, and k the number of the record that it rests on besides
abbrev pub reason_words : Rule → Line → Record → Record → ℕ → ℕ → List ℕ
reason_words Clock l u v k m = clock_words l u v
reason_words Model l u v k m = model_words l u m
reason_words ReadsFrom l u v k m = decimal l.second ++ (codes " is a load of " ++ (address_words u.address ++ (codes " that reads the store " ++ decimal l.first)))
reason_words InitialRead l u v k m = decimal l.first ++ (codes " loads 0 from " ++ (address_words u.address ++ (codes ", the value at the start, and " ++ (decimal l.second ++ codes " stores to it"))))
reason_words Coherence l u v k m =
    codes "the load " ++ (decimal k ++ (codes " reads the store " ++ (decimal l.second ++ (codes ", and " ++ (decimal l.first ++ (codes ", another store to " ++ (address_words u.address ++ (codes ", is listed before " ++ decimal k))))))))
reason_words FromRead l u v k m =
    codes "the load " ++ (decimal l.first ++ (codes " reads the store " ++ (decimal k ++ (codes ", and " ++ (decimal k ++ (codes " is listed before " ++ (decimal l.second ++ (codes ", another store to " ++ address_words u.address))))))))
reason_words Transitive l u v k m = decimal l.first ++ (codes " is listed before " ++ (decimal k ++ (codes ", and " ++ (decimal k ++ (codes " before " ++ decimal l.second)))))

-- behind a line's sentence
abbrev pub reason_behind : Option Reason → List ℕ
reason_behind None = []
reason_behind (Some r) = codes ": " ++ reason_words r.line.rule r.line r.first r.second r.rests_on r.model

abbrev pub opposed_behind : Option ℕ → List ℕ
opposed_behind None = []
opposed_behind (Some k) = codes " (opposed to line " ++ (decimal k ++ codes ")")

-- a line of the list
abbrev pub line_words : LineRow → List ℕ
line_words r =
    codes "  line " ++ (decimal r.number ++ (codes ", rule " ++ (decimal (rule_number r.line.rule) ++ (codes ": " ++ (decimal r.line.first ++ (codes " before " ++ (decimal r.line.second ++ (reason_behind r.reason ++ opposed_behind r.opposed))))))))

-- the row of line k of a case with these records, under the model with a mark
pub record IsLineRow (rs : List Record) (ls : List Line) (m k : ℕ) (r : LineRow) : Type 0 where
  pub number : r.number ≡ k
  pub line : r.line ≡ line_at ls k
  pub reason : IsReason rs (line_at ls k) m r.reason
  pub opposed : Least (opposed_to (line_at ls k) ls) (length ls) r.opposed

-- a row for each line, in the order in which they were listed
abbrev pub AreLineRows : List Record → List Line → ℕ → List LineRow → Type 0
AreLineRows rs ls m rows = AreRows (λ i. IsLineRow rs ls m (i + 1)) (length ls) rows

-- a row for each line that the last two rest on, by the numbers of these
pub record AreCycleRows (rs : List Record) (ls : List Line) (m : ℕ) (rows : List LineRow) : Type 0 where
  pub numbers : List ℕ
  pub needed : AreNeeded rs ls numbers
  pub each : AreRows (λ i. IsLineRow rs ls m (slice_index numbers i)) (length numbers) rows

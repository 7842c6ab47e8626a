-- What opposed lines rest on: the lines that the last line and the one that it is opposed to rest on, the lines that those rest on, and so on.
-- Lines are counted from 1. Assumes nothing.
use Rattle.std.specs.Prelude.{◌≡◌, ℕ, ◌-◌, ◌<◌, ◌≤◌, Bool, true, false, ◌&&◌, ◌⊎◌, ◌↔◌, List, length, map, take, Contains, Some, Option, ◌==◌, slice_index_or}
use Rattle.std.specs.List.Sorted.{IsStrictlyIncreasing}
use Rattle.memory.specs.declared.lines.Line.{Line}
use Rattle.memory.specs.declared.lines.Rule.{Rule}
use Rattle.memory.specs.declared.lines.Rule.TheVariants.{Clock, Model, ReadsFrom, InitialRead, Coherence, FromRead, Transitive}
use Rattle.memory.specs.declared.records.Record.{Record}
use Rattle.memory.specs.Reading.{reads_from, Least}
use Rattle.memory.specs.Runs.{Run, Setting, at, run_of}
use Rattle.inference.specs.Next.{fits}
use Rattle.inference.specs.Rules.{among, has_pair}
use Rattle.inference.specs.Worth.{opposes}
use Rattle.finding.specs.Finding.{opposed_to}

-- what is read where there is no line; it rests on none
abbrev pub no_line : Line
no_line = record { rule = Clock; first = 0; second = 0; third = 0 }

-- the line with the number k
abbrev pub line_at : List Line → ℕ → Line
line_at ls k = slice_index_or ls (k - 1) no_line

-- record x is a load that reads record w
abbrev pub reads_number : List Record → ℕ → ℕ → Bool
reads_number rs x w = among (length rs) x && (among (length rs) w && reads_from (at rs x) (at rs w))

-- m is what a line l of this rule asks for: its first before its third, or, at a from-read line, a store that its first reads before its second
abbrev pub gives_first : List Record → Rule → Line → Line → Bool
gives_first rs Clock l m = false
gives_first rs Model l m = false
gives_first rs ReadsFrom l m = false
gives_first rs InitialRead l m = false
gives_first rs Coherence l m = has_pair l.first l.third m
gives_first rs FromRead l m = m.second == l.second && reads_number rs l.first m.first
gives_first rs Transitive l m = has_pair l.first l.third m

-- m is the other line that a transitive line l asks for: its third before its second
abbrev pub gives_second : Rule → Line → Line → Bool
gives_second Clock l m = false
gives_second Model l m = false
gives_second ReadsFrom l m = false
gives_second InitialRead l m = false
gives_second Coherence l m = false
gives_second FromRead l m = false
gives_second Transitive l m = has_pair l.third l.second m

-- the first line before line i that is what it asks for, if there is one
abbrev pub FirstPremise : List Record → List Line → ℕ → Option ℕ → Type 0
FirstPremise rs ls i = let l = line_at ls i in Least (λ k. gives_first rs l.rule l (line_at ls k)) (i - 1)

-- the same of the other line that a transitive line asks for
abbrev pub SecondPremise : List Line → ℕ → Option ℕ → Type 0
SecondPremise ls i = let l = line_at ls i in Least (λ k. gives_second l.rule l (line_at ls k)) (i - 1)

-- line i rests on line j
abbrev pub RestsOn : List Record → List Line → ℕ → ℕ → Type 0
RestsOn rs ls i j = FirstPremise rs ls i (Some j) ⊎ SecondPremise ls i (Some j)

-- the line that the last line is opposed to, the first before it that has its pair reversed, if there is one
abbrev pub LastOpposed : List Line → Option ℕ → Type 0
LastOpposed ls = Least (opposed_to (line_at ls (length ls)) ls) (length ls - 1)

-- line k is the last line, or the line that this is opposed to; where it is opposed to none, there is no such line
abbrev pub IsOpposed : List Line → ℕ → Type 0
IsOpposed ls k = (j : ℕ) × LastOpposed ls (Some j) × ((k ≡ length ls) ⊎ (k ≡ j))

-- the set of numbers has those two
abbrev pub HasOpposed : List Line → (ℕ → Bool) → Type 0
HasOpposed ls p = (k : ℕ) → IsOpposed ls k → p k ≡ true

-- the set has with each line those that the line rests on
abbrev pub IsClosed : List Record → List Line → (ℕ → Bool) → Type 0
IsClosed rs ls p = (i j : ℕ) → p i ≡ true → RestsOn rs ls i j → p j ≡ true

-- line k is in every such set
abbrev pub Needed : List Record → List Line → ℕ → Type 0
Needed rs ls k = (p : ℕ → Bool) → HasOpposed ls p → IsClosed rs ls p → p k ≡ true

-- the numbers of the needed lines, and no others, each once and in order
abbrev pub AreNeeded : List Record → List Line → List ℕ → Type 0
AreNeeded rs ls ks = IsStrictlyIncreasing ks × ((k : ℕ) → Contains ks k ↔ Needed rs ls k)

-- the lines with these numbers
abbrev pub lines_at : List Line → List ℕ → List Line
lines_at ls ks = map (line_at ls) ks

-- each line follows from the run and the lines before it, and its pair is new there
abbrev pub Founded : Run → List Line → Type 0
Founded R ls = (k : ℕ) → 0 < k → k ≤ length ls → fits R (take (k - 1) ls) (line_at ls k) ≡ true

-- these lines of the list stand on their own: if the list is founded, so are they, with no line but theirs
abbrev pub StandAlone : List Record → List Line → List Line → Type 0
StandAlone rs ls kept = (S : Setting) → Founded (run_of S rs) ls → Founded (run_of S rs) kept

-- the last line is opposed to one before it
abbrev pub EndsOpposed : List Line → Type 0
EndsOpposed ls = opposes (take (length ls - 1) ls) (line_at ls (length ls)) ≡ true

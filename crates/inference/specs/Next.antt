-- The line that is listed next: the least that follows with a new pair. Assumes nothing.
use Rattle.std.specs.Prelude.{◌≡◌, ℕ, zero, suc, ◌<◌, ◌≤◌, Bool, true, false, not, ◌&&◌, ◌⊎◌, List, Some, None, Option}
use Rattle.memory.specs.declared.lines.Line.{Line}
use Rattle.memory.specs.declared.lines.Rule.{Rule}
use Rattle.memory.specs.Numbers.{rule_number, last_rule, rule_at}
use Rattle.memory.specs.Runs.{Run}
use Rattle.inference.specs.Rules.{listed, follows}

-- the line follows, and its pair is new
abbrev pub fits : Run → List Line → Line → Bool
fits R ls l = follows R ls l && not (listed ls l.first l.second)

-- l is no larger than m, by rule, then first, then second, then third
abbrev pub NoLarger : Line → Line → Type 0
NoLarger l m =
    (rule_number l.rule < rule_number m.rule)
    ⊎ ((rule_number l.rule ≡ rule_number m.rule) × ((l.first < m.first) ⊎ ((l.first ≡ m.first) × ((l.second < m.second) ⊎ ((l.second ≡ m.second) × (l.third ≤ m.third))))))

-- what the next line is: it follows, its pair is new, and no smaller line does so; there is none only where no line does
abbrev pub Next : Run → List Line → Option Line → Type 0
Next R ls None = (m : Line) → fits R ls m ≡ false
Next R ls (Some l) = (fits R ls l ≡ true) × ((m : Line) → fits R ls m ≡ true → NoLarger l m)

-- the next line, computed: the first that fits where rule, first, second and third count up
abbrev pub or_else : {X : Type 0} → Option X → Option X → Option X
or_else None y = y
or_else (Some x) y = Some x

-- the first of f 1 to f n that is there
abbrev pub seek : {X : Type 0} → (ℕ → Option X) → ℕ → Option X
seek f zero = None
seek f (suc n) = or_else (seek f n) (f (suc n))

abbrev pub line_of : Rule → ℕ → ℕ → ℕ → Line
line_of r a b c = record { rule = r; first = a; second = b; third = c }

abbrev pub if_fits : Bool → Line → Option Line
if_fits true l = Some l
if_fits false l = None

abbrev pub tried : Run → List Line → Rule → ℕ → ℕ → ℕ → Option Line
tried R ls r a b c = if_fits (fits R ls (line_of r a b c)) (line_of r a b c)

abbrev pub least_of_pair : Run → List Line → Rule → ℕ → ℕ → Option Line
least_of_pair R ls r a b = or_else (tried R ls r a b 0) (seek (tried R ls r a b) R.size)

abbrev pub least_of_first : Run → List Line → Rule → ℕ → Option Line
least_of_first R ls r a = seek (least_of_pair R ls r a) R.size

abbrev pub least_of_rule : Run → List Line → Option Rule → Option Line
least_of_rule R ls None = None
least_of_rule R ls (Some r) = seek (least_of_first R ls r) R.size

unfoldable pub next : Run → List Line → Option Line
next R ls = seek (λ k. least_of_rule R ls (rule_at k)) last_rule

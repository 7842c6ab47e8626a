-- The seven rules by which a line follows from a run and the lines listed before it. Assumes nothing.
use Rattle.std.specs.Prelude.{ℕ, zero, suc, Bool, true, false, not, ◌&&◌, ◌||◌, List, ◌==◌, nat_le, nat_lt}
use Rattle.memory.specs.declared.lines.Line.{Line}
use Rattle.memory.specs.declared.lines.Rule.{Rule}
use Rattle.memory.specs.declared.lines.Rule.TheVariants.{Clock, Model, ReadsFrom, InitialRead, Coherence, FromRead, Transitive}
use Rattle.std.specs.List.{list_any}
use Rattle.memory.specs.Runs.{Run}

-- a is one of 1 to n
abbrev pub among : ℕ → ℕ → Bool
among n a = nat_lt 0 a && nat_le a n

-- a is the number of a record of the run
abbrev pub known : Run → ℕ → Bool
known R a = among R.size a

-- the line says that a comes before b
abbrev pub has_pair : ℕ → ℕ → Line → Bool
has_pair a b l = l.first == a && l.second == b

-- the pair is listed
abbrev pub listed : List Line → ℕ → ℕ → Bool
listed ls a b = list_any (has_pair a b) ls

-- x is a load of a value other than 0, and w the store with its address and value: `reads_from`, by numbers
abbrev pub reads : Run → ℕ → ℕ → Bool
reads R x w = R.load x && (not (R.value x == 0) && (R.store w && (R.addr w == R.addr x && R.value w == R.value x)))

-- x is a load of 0, and w a store to its address
abbrev pub reads_initial : Run → ℕ → ℕ → Bool
reads_initial R x w = R.load x && (R.value x == 0 && (R.store w && R.addr w == R.addr x))

-- two different stores to one address
abbrev pub rivals : Run → ℕ → ℕ → Bool
rivals R v w = R.store v && (R.store w && (R.addr v == R.addr w && not (v == w)))

-- the load x reads w, and w is listed before b, another store to that address
abbrev pub overwritten : Run → List Line → ℕ → ℕ → ℕ → Bool
overwritten R ls x b w = reads R x w && (rivals R w b && listed ls w b)

-- some of 1 to n passes
abbrev pub some : (ℕ → Bool) → ℕ → Bool
some p zero = false
some p (suc n) = p (suc n) || some p n

-- what each rule asks of a first a, a second b and a third c
abbrev pub by_rule : Run → List Line → Rule → ℕ → ℕ → ℕ → Bool
-- the commit of the first is surely earlier than the enter of the second
by_rule R ls Clock a b c = R.clock a b
-- the first is earlier in program order, and the model orders the two
by_rule R ls Model a b c = R.model a b
-- the second is a load that reads the first
by_rule R ls ReadsFrom a b c = reads R b a
-- the first is a load of 0, and the second a store to its address
by_rule R ls InitialRead a b c = reads_initial R a b
-- the third is a load that reads the second, and the first, another store to that address, is listed before the third
by_rule R ls Coherence a b c = reads R c b && (rivals R a b && listed ls a c)
-- the first is a load that reads a store which is listed before the second, another store to that address
by_rule R ls FromRead a b c = some (overwritten R ls a b) R.size
-- the first is listed before the third, and the third before the second
by_rule R ls Transitive a b c = listed ls a c && listed ls c b

-- coherence and transitive lines name a third, which is a record; at the others it is 0
abbrev pub names_third : Rule → Bool
names_third Clock = false
names_third Model = false
names_third ReadsFrom = false
names_third InitialRead = false
names_third Coherence = true
names_third FromRead = false
names_third Transitive = true

abbrev pub third_fits : Run → Bool → ℕ → Bool
third_fits R true c = known R c
third_fits R false c = c == 0

-- the line follows: it names two different records, its third is as the rule names one, and the rule gives it
abbrev pub follows : Run → List Line → Line → Bool
follows R ls l =
    known R l.first && (known R l.second && (not (l.first == l.second) && (third_fits R (names_third l.rule) l.third && by_rule R ls l.rule l.first l.second l.third)))

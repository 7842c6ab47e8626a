-- What a line of a log says. Assumes nothing.
use Rattle.std.specs.Prelude.{ℕ, ◌-◌, ◌^◌, cond, ◌&&◌, List, codes, drop, Ok, Err, Result, ◌==◌, slice_index}
use Rattle.std.specs.Char.{is_ascii_digit}
use Rattle.memory.specs.declared.kinds.Kind.{Kind}
use Rattle.memory.specs.declared.kinds.Kind.TheVariants.{Load, Store, Fence}
use Rattle.memory.specs.declared.records.Entry.{Entry}
use Rattle.memory.specs.Kinds.{kind_number}
use Rattle.memory.specs.Limits.{reading_limit}
use Rattle.logs.specs.declared.heads.NamedModel.{NamedModel}
use Rattle.logs.specs.declared.heads.NamedModel.TheVariants.{Sc, Godson}
use Rattle.logs.specs.declared.heads.NamedClock.{NamedClock}
use Rattle.logs.specs.declared.heads.NamedClock.TheVariants.{Global, NoClock}
use Rattle.logs.specs.declared.statements.Operation.{Operation}
use Rattle.logs.specs.declared.statements.Period.{Period}
use Rattle.logs.specs.declared.statements.Statement.{Statement}
use Rattle.logs.specs.declared.statements.Statement.TheVariants as statement
use Rattle.logs.specs.declared.troubles.Expected.{Expected}
use Rattle.logs.specs.declared.troubles.Expected.TheVariants as expected
use Rattle.logs.specs.Numbers.{numeral}
use Rattle.logs.specs.Parts.{and_then, after_blanks, word_in, behind_word, says, behind_sign, is_over}

-- what was read, where the line is over behind it
abbrev pub ended : {A : Type 0} → A → List ℕ → Result A Expected
ended x rest = cond (is_over rest) (Ok x) (Err expected.End)

-- := stands for a store, == for a load; and what follows it
abbrev pub operator_at : List ℕ → Result (Kind × List ℕ) Expected
operator_at s =
    cond (slice_index s 0 == 58 && slice_index s 1 == 61) (Ok (Store, drop 2 s))
    (cond (slice_index s 0 == 61 && slice_index s 1 == 61) (Ok (Load, drop 2 s)) (Err expected.Operator))

unfoldable pub operator : List ℕ → Result (Kind × List ℕ) Expected
operator bs = operator_at (after_blanks bs)

-- behind M: an address in brackets, in hexadecimal, an operator and a value
unfoldable pub load_or_store : List ℕ → Result (Operation × List ℕ) Expected
load_or_store bs =
    and_then (behind_sign 91 expected.OpenBracket bs)
    (λ opened. and_then (numeral 16 (2 ^ 32 - 1) expected.Address opened)
    (λ address. and_then (behind_sign 93 expected.CloseBracket address.1)
    (λ closed. and_then (operator closed)
    (λ kind. and_then (numeral 10 (2 ^ 64 - 1) expected.Value kind.1)
    (λ value. Ok (record { kind = kind.0; address = address.0; value = value.0 }, value.1))))))

-- a fence has neither address nor value
abbrev pub fence : Operation
fence = record { kind = Fence; address = 0; value = 0 }

-- what a processor did: a fence, a load or a store
unfoldable pub operation_in : List ℕ → Result (Operation × List ℕ) Expected
operation_in bs =
    let s = after_blanks bs in
    cond (says (word_in s) (codes "sync")) (Ok (fence, behind_word s))
    (cond (says (word_in s) (codes "M")) (load_or_store (behind_word s)) (Err expected.Operation))

-- from the least reading to the greatest that is lawful
abbrev pub any_time : Period
any_time = record { enter = 0; commit = reading_limit - 1 }

-- behind @: an enter and a commit reading, with : between them
unfoldable pub stamp : List ℕ → Result Period Expected
stamp bs =
    and_then (behind_sign 64 expected.Stamp bs)
    (λ begun. and_then (numeral 10 (2 ^ 64 - 1) expected.Enter begun)
    (λ enter. and_then (behind_sign 58 expected.StampColon enter.1)
    (λ parted. and_then (numeral 10 (2 ^ 64 - 1) expected.Commit parted)
    (λ commit. ended (record { enter = enter.0; commit = commit.0 }) commit.1))))

-- the rest of an access; where no stamp stands, it took place at any time
unfoldable pub period_in : List ℕ → Result Period Expected
period_in bs = cond (is_over bs) (Ok any_time) (stamp bs)

abbrev pub entry_of_parts : ℕ → Operation → Period → Entry
entry_of_parts p o t = record { processor = p; kind = kind_number o.kind; address = o.address; value = o.value; enter = t.enter; commit = t.commit }

-- a processor, what it did, and when
unfoldable pub access : List ℕ → Result Entry Expected
access bs =
    and_then (numeral 10 254 expected.Processor bs)
    (λ processor. and_then (behind_sign 58 expected.Colon processor.1)
    (λ parted. and_then (operation_in parted)
    (λ done. and_then (period_in done.1)
    (λ time. Ok (entry_of_parts processor.0 done.0 time)))))

abbrev pub model_named : List ℕ → Result NamedModel Expected
model_named word = cond (says word (codes "SC")) (Ok Sc) (cond (says word (codes "Godson")) (Ok Godson) (Err expected.Model))

abbrev pub clock_named : List ℕ → Result NamedClock Expected
clock_named word = cond (says word (codes "global")) (Ok Global) (cond (says word (codes "none")) (Ok NoClock) (Err expected.Clock))

-- the rests of the three head lines
unfoldable pub model_line : List ℕ → Result Statement Expected
model_line bs = let s = after_blanks bs in and_then (model_named (word_in s)) (λ m. ended (statement.Model m) (behind_word s))

unfoldable pub clock_line : List ℕ → Result Statement Expected
clock_line bs = let s = after_blanks bs in and_then (clock_named (word_in s)) (λ c. ended (statement.Clock c) (behind_word s))

unfoldable pub processors_line : List ℕ → Result Statement Expected
processors_line bs = and_then (numeral 10 255 expected.Processors bs) (λ n. ended (statement.Processors n.0) n.1)

-- a head line says in its first word of what it is
unfoldable pub head_line : List ℕ → Result Statement Expected
head_line bs =
    let s = after_blanks bs in
    cond (says (word_in s) (codes "model")) (model_line (behind_word s))
    (cond (says (word_in s) (codes "clock")) (clock_line (behind_word s))
    (cond (says (word_in s) (codes "processors")) (processors_line (behind_word s)) (Err expected.Beginning)))

-- what a line says: nothing, or an access, which begins with a digit, or a part of the head
unfoldable pub statement_of : List ℕ → Result Statement Expected
statement_of line =
    cond (is_over line) (Ok statement.Nothing)
    (cond (is_ascii_digit (slice_index (after_blanks line) 0))
    (and_then (access line) (λ entry. Ok (statement.Access entry)))
    (head_line line))

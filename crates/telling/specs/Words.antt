-- The words of verdicts, refusals and marks, of what a verdict claims, and of records, as they are printed. Assumes nothing.
use Rattle.std.specs.Prelude.{ℕ, false, cond, List, [], ◌++◌, codes, Some, None, Option, ◌==◌}
use Rattle.std.specs.Fmt.{decimal, digits}
use Rattle.memory.specs.declared.kinds.Kind.{Kind}
use Rattle.memory.specs.declared.kinds.Kind.TheVariants.{Load, Store, Fence}
use Rattle.memory.specs.declared.records.Record.{Record}
use Rattle.memory.specs.declared.refusals.Fault.{Fault}
use Rattle.memory.specs.declared.refusals.Refusal.{Refusal}
use Rattle.memory.specs.declared.refusals.Refusal.TheVariants as refuse
use Rattle.memory.specs.declared.verdicts.Verdict.{Verdict}
use Rattle.memory.specs.declared.verdicts.Verdict.TheVariants.{Order, Opposed, Orphan, Exhausted}
use Rattle.memory.specs.Numbers.{refusal_number, layer_number}

-- the verdict with a number
abbrev pub verdict_name : ℕ → List ℕ
verdict_name n =
    cond (n == 0) (codes "undecided")
    (cond (n == 1) (codes "order")
    (cond (n == 2) (codes "opposed lines")
    (cond (n == 3) (codes "orphan")
    (cond (n == 4) (codes "exhausted") (codes "unknown")))))

-- a refusal in one word
abbrev pub refusal_name : Refusal → List ℕ
refusal_name refuse.Malformed = codes "Malformed"
refusal_name refuse.Foreign = codes "Foreign"
refusal_name refuse.Decided = codes "Decided"
refusal_name refuse.Sealed = codes "Sealed"
refusal_name refuse.Unsealed = codes "Unsealed"
refusal_name refuse.Full = codes "Full"
refusal_name refuse.Stranger = codes "Stranger"
refusal_name refuse.Kind = codes "Kind"
refusal_name refuse.Blank = codes "Blank"
refusal_name refuse.Range = codes "Range"
refusal_name refuse.Backward = codes "Backward"
refusal_name refuse.Twin = codes "Twin"
refusal_name refuse.Spent = codes "Spent"
refusal_name refuse.Bare = codes "Bare"
refusal_name refuse.Short = codes "Short"
refusal_name refuse.Unfounded = codes "Unfounded"
refusal_name refuse.Hollow = codes "Hollow"

-- a fault in one line: number and word of the refusal, layer and place
abbrev pub refused_words : Fault → List ℕ
refused_words f =
    codes "refused " ++ (decimal (refusal_number f.refusal) ++ (codes " " ++ (refusal_name f.refusal ++ (codes " layer " ++ (decimal (layer_number f.layer) ++ (codes " place " ++ decimal f.place))))))

-- the model with a mark
abbrev pub model_name : ℕ → List ℕ
model_name mark = cond (mark == 1) (codes "SC") (cond (mark == 3) (codes "Godson") (codes "unknown"))

-- the clock with a mark
abbrev pub clock_name : ℕ → List ℕ
clock_name mark = cond (mark == 1) (codes "Global") (cond (mark == 3) (codes "None") (codes "unknown"))

-- what a verdict claims, in a sentence
abbrev pub claim_words : Option Verdict → List ℕ
claim_words None = codes "Nothing is claimed: the run may have a legal order or none."
claim_words (Some Order) = codes "The run has a legal order, which the paper shows."
claim_words (Some Opposed) = codes "The run has no legal order: two records would each have to come before the other."
claim_words (Some (Orphan l)) = codes "The run has no legal order: a load read what nobody wrote."
claim_words (Some Exhausted) = codes "The run has no legal order: the search has gone through everything."

-- an address, in hexadecimal
abbrev pub address_words : ℕ → List ℕ
address_words a = codes "0x" ++ digits 16 false a

-- what a record of this kind did with a value at an address; a fence has neither
abbrev pub kind_words : Kind → ℕ → ℕ → List ℕ
kind_words Load value a = codes "load of " ++ (decimal value ++ (codes " from " ++ address_words a))
kind_words Store value a = codes "store of " ++ (decimal value ++ (codes " to " ++ address_words a))
kind_words Fence value a = codes "fence"

abbrev pub operation_words : Record → List ℕ
operation_words r = kind_words r.kind r.value r.address

-- a record with its number, as it was logged
abbrev pub logged_words : ℕ → Record → List ℕ
logged_words n r =
    codes "record " ++ (decimal n ++ (codes ": P" ++ (decimal r.processor ++ (codes " " ++ (operation_words r ++ (codes ", enter " ++ (decimal r.enter ++ (codes ", commit " ++ decimal r.commit))))))))

-- where a load's value is from: a store, or the start; other records read nothing
abbrev pub source_words : Kind → Option ℕ → List ℕ
source_words Load (Some store) = codes "; reads the store " ++ decimal store
source_words Load None = codes "; finds the value at the start"
source_words Store store = []
source_words Fence store = []

-- so many records
abbrev pub records_words : ℕ → List ℕ
records_words n = cond (n == 1) (codes "1 record") (decimal n ++ codes " records")

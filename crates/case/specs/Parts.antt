-- What the private parts of loading promise one another: an entry, the fields. Assumes nothing.
use Rattle.std.specs.Prelude.{◌≡◌, ℕ, ◌≤◌, List, [], ◌++◌, drop, Ok, Err, Result}
use Rattle.memory.specs.declared.records.Record.{Record}
use Rattle.memory.specs.declared.refusals.Refusal.{Refusal}
use Rattle.memory.specs.Admission.{judgement}
use Rattle.wire.specs.declared.faults.RunFault.{RunFault}
use Rattle.wire.specs.declared.faults.RunFault.TheVariants.{Content}
use Rattle.wire.specs.declared.runs.EntryAt.{EntryAt}
use Rattle.wire.specs.Bytes.{field, all_of, record_field}
use Rattle.wire.specs.Tags.{run_end_tag}
use Rattle.case.specs.State.{State, with_record}
use Rattle.case.specs.Loading.{place_of}

-- a case that was s and is t was given the entry of a field: it was admitted, or refused at the place of its field
abbrev pub Given : State → EntryAt → State → Result (Unit {0}) RunFault → Type 0
Given s x t (Ok u) = (r : Record) × (judgement s.processors s.records x.entry ≡ Ok r) × (t ≡ with_record s r)
Given s x t (Err e) = (r : Refusal) × (judgement s.processors s.records x.entry ≡ Err r) × (t ≡ s) × (e ≡ Content r x.place)

-- a case that was s and is t has gained the records that the bytes from a place on say, before those that are left
pub record Walked (bs : List ℕ) (from : ℕ) (s : State) (left : List ℕ) (t : State) : Type 0 where
  pub more : List Record
  pub records : t.records ≡ s.records ++ more
  pub processors : t.processors ≡ s.processors
  pub bytes : drop from bs ≡ all_of record_field more ++ left

-- what is left where the fields ended: the end field and what stands behind it, or the field at fault
abbrev pub left_by : Result (Unit {0}) RunFault → ℕ → List ℕ → List ℕ
left_by (Ok u) to bs = field run_end_tag [] ++ drop to bs
left_by (Err e) to bs = drop (place_of e) bs

abbrev pub told_by : Result (Unit {0}) RunFault → ℕ → Result ℕ RunFault
told_by (Ok u) to = Ok to
told_by (Err e) to = Err e

abbrev pub NotBefore : ℕ → Result (Unit {0}) RunFault → Type 0
NotBefore from (Ok u) = Unit {0}
NotBefore from (Err e) = from ≤ place_of e

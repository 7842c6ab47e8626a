-- What the private parts of reading a run promise one another. Assumes nothing.
use Rattle.std.specs.Prelude.{◌≡◌, ℕ, ◌+◌, ◌*◌, ◌⊎◌, List, [], ◌∷◌, ◌++◌, length, Ok, Err, Option, Result}
use Rattle.memory.specs.declared.records.Record.{Record}
use Rattle.memory.specs.declared.refusals.Refusal.{Refusal}
use Rattle.memory.specs.declared.refusals.Refusal.TheVariants as refuse
use Rattle.memory.specs.Admission.{judgement}
use Rattle.wire.specs.declared.faults.RunFault.{RunFault}
use Rattle.wire.specs.declared.faults.RunFault.TheVariants.{Content}
use Rattle.wire.specs.declared.runs.EntryAt.{EntryAt}
use Rattle.case.specs.State.{State, holding}
use Rattle.case.specs.Loading.{Loaded, ended_as}
use Rattle.case.specs.Parts.{told_by}
use Rattle.lists.specs.declared.lent.LentList.{LentList}
use Rattle.lists.specs.Lists.{entries, rest, Grown}
use Rattle.referee.specs.Runs.{read_run}

-- an open case of p processors with the records of a list
abbrev pub held : ℕ → LentList Record → State
held p l = holding p (entries l)

-- why a list does not take the record of an entry: it is not lawful, or no place is left
abbrev pub NotTaken : ℕ → EntryAt → LentList Record → RunFault → Type 0
NotTaken p x l e =
    ((r : Refusal) × (judgement p (entries l) x.entry ≡ Err r) × (e ≡ Content r x.place))
    ⊎ ((r : Record) × (judgement p (entries l) x.entry ≡ Ok r) × (rest l ≡ []) × (e ≡ Content refuse.Short x.place))

-- a list was given an entry
abbrev pub RecordTaken : ℕ → EntryAt → LentList Record → LentList Record → Result (Unit {0}) RunFault → Type 0
RecordTaken p x before after (Ok u) = (r : Record) × (judgement p (entries before) x.entry ≡ Ok r) × Grown before after (r ∷ [])
RecordTaken p x before after (Err e) = NotTaken p x before e × Grown before after []

-- the list has no place for a record that loading would admit: all its places are taken, and the fault is Short at that record's field
pub record RanOut (full : Loaded) (from : ℕ) (before after : LentList Record) (r : Result (Unit {0}) RunFault) : Type 0 where
  pub place : ℕ
  pub at : place + 33 * length (entries before) ≡ from + 33 * length (entries after)
  pub fault : r ≡ Err (Content refuse.Short place)
  pub none : rest after ≡ []
  pub one : Record
  pub others : List Record
  pub more : full.state.records ≡ entries after ++ one ∷ others

-- the fields from a place on were read into a list as loading reads them, or it ran out of places
abbrev pub ReadInto : Loaded → ℕ → ℕ → LentList Record → LentList Record → Result (Unit {0}) RunFault → ℕ → Type 0
ReadInto full p from before after r to = (full ≡ ended_as (held p after) (told_by r to)) ⊎ RanOut full from before after r

-- a run was read into a list that had no entries before
pub record IsRead (model clock : ℕ) (before after : LentList Record) (bs : List ℕ) (f : Option RunFault) : Type 0 where
  pub fault : f ≡ (read_run model clock (length (rest before)) bs).fault
  pub records : Grown before after (read_run model clock (length (rest before)) bs).records

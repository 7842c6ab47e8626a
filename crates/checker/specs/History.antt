-- Histories: any calls on one case, with any arguments, refused ones included. Assumes nothing.
use Rattle.std.specs.Prelude.{ℕ, ◌+◌, List, [], ◌∷◌, ◌++◌, Some, None, Ok, Err, Option, Result}
use Rattle.memory.specs.declared.kinds.Kind.{Kind}
use Rattle.memory.specs.declared.records.Entry.{Entry}
use Rattle.memory.specs.declared.records.Record.{Record}
use Rattle.memory.specs.declared.refusals.Fault.{Fault}
use Rattle.memory.specs.declared.verdicts.Progress.{Progress}
use Rattle.memory.specs.Admission.{record_of}
use Rattle.memory.specs.Kinds.{kind_at}
use Rattle.memory.specs.Runs.{Setting}
use Rattle.case.specs.State.{State}
use Rattle.case.specs.Calls.{opening, admitting, inferring, sealing, searching}

-- a call on a case with its arguments; one that writes has the bytes that it is lent
pub data Invocation : Type 0 where
  begin : ℕ → Invocation
  admit : Entry → Invocation
  infer : ℕ → Invocation
  seal : Invocation
  search_on : ℕ → Invocation
  write_run write_slip write_paper : List ℕ → Invocation

-- the case after a call, which may be refused; one that writes leaves it as it was
abbrev pub after_call : Setting → State → Invocation → State
after_call S s (begin p) = (opening s p).state
after_call S s (admit e) = (admitting s e).state
after_call S s (infer k) = (inferring S s k).state
after_call S s seal = (sealing s).state
after_call S s (search_on k) = (searching S s k).state
after_call S s (write_run out) = s
after_call S s (write_slip out) = s
after_call S s (write_paper out) = s

-- the case after all calls, in their order
abbrev pub after : Setting → State → List Invocation → State
after S s [] = s
after S s (c ∷ cs) = after S (after_call S s c) cs

-- what the caller reckons who sees the calls and their answers, since the last opening that was not refused: for how many processors, which
-- records were admitted, how many steps the searches that were not refused asked for in all, and how many they answered in all
pub record Reckoning : Type 0 where
  pub processors : ℕ
  pub records : List Record
  pub asked : ℕ
  pub answered : ℕ

-- nothing yet, of a case that was opened with p processors
abbrev pub from_opening : ℕ → Reckoning
from_opening p = record { processors = p; records = []; asked = 0; answered = 0 }

-- an opening that is not refused begins this anew
abbrev pub begun : Reckoning → ℕ → Result (Unit {0}) Fault → Reckoning
begun a p (Ok u) = from_opening p
begun a p (Err f) = a

-- the record that an entry says, where its kind is one
abbrev pub record_in : Entry → Option Kind → List Record
record_in e None = []
record_in e (Some k) = record_of k e ∷ []

-- an admission that is not refused adds its record at the end
abbrev pub added : Reckoning → Entry → Result ℕ Fault → Reckoning
added a e (Ok n) = record { processors = a.processors; records = a.records ++ record_in e (kind_at e.kind); asked = a.asked; answered = a.answered }
added a e (Err f) = a

-- a search that is not refused asks for its k, and answers the steps done
abbrev pub searched : Reckoning → ℕ → Result Progress Fault → Reckoning
searched a k (Ok p) = record { processors = a.processors; records = a.records; asked = a.asked + k; answered = a.answered + p.done }
searched a k (Err f) = a

-- after a call on a case that was s; the other calls admit nothing and ask for no steps
abbrev pub reckoned_by : Setting → State → Reckoning → Invocation → Reckoning
reckoned_by S s a (begin p) = begun a p (opening s p).answer
reckoned_by S s a (admit e) = added a e (admitting s e).answer
reckoned_by S s a (infer k) = a
reckoned_by S s a seal = a
reckoned_by S s a (search_on k) = searched a k (searching S s k).answer
reckoned_by S s a (write_run out) = a
reckoned_by S s a (write_slip out) = a
reckoned_by S s a (write_paper out) = a

-- after all calls, in their order
abbrev pub reckoned : Setting → State → Reckoning → List Invocation → Reckoning
reckoned S s a [] = a
reckoned S s a (c ∷ cs) = reckoned S (after_call S s c) (reckoned_by S s a c) cs

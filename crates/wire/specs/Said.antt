-- What the fields of a run say, by the rules of loading. Assumes nothing.
use Rattle.std.specs.Prelude.{ℕ, cond, not, ◌&&◌, Some, None, Ok, Err, Option, Result, ◌==◌}
use Rattle.memory.specs.declared.records.Entry.{Entry}
use Rattle.memory.specs.declared.refusals.Refusal.TheVariants as refuse
use Rattle.memory.specs.Admission.{opens}
use Rattle.wire.specs.declared.faults.ByteFault.{ByteFault}
use Rattle.wire.specs.declared.faults.RunFault.{RunFault}
use Rattle.wire.specs.declared.faults.RunFault.TheVariants.{Bytes, Content}
use Rattle.wire.specs.declared.fields.RunHead.{RunHead}
use Rattle.wire.specs.declared.runs.EntryAt.{EntryAt}
use Rattle.wire.specs.Fields.{Sort, head_field, record_field, end_field, Shown, fault_at, entry_of, run_head_of}

-- a head is judged by its marks, then by its number of processors
abbrev pub head_judged : ℕ → ℕ → ℕ → RunHead → Result RunHead RunFault
head_judged model clock at h =
    cond (not (h.model == model && h.clock == clock)) (Err (Content refuse.Foreign at))
    (cond (not (opens h.processors)) (Err (Content refuse.Stranger at)) (Ok h))

abbrev pub head_read : ℕ → ℕ → ℕ → Result RunHead ByteFault → Result RunHead RunFault
head_read model clock at (Ok h) = head_judged model clock at h
head_read model clock at (Err e) = Err (Bytes e)

abbrev pub head_sort : Sort → ℕ → ℕ → Shown → Result RunHead RunFault
head_sort head_field model clock f = head_read model clock f.place (run_head_of f.place f.content)
head_sort s model clock f = Err (Bytes (fault_at f.place))

-- the head that a first field says, under two marks; a first field that is no head ends the reading there
abbrev pub head_said : ℕ → ℕ → Shown → Result RunHead RunFault
head_said model clock f = head_sort f.sort model clock f

abbrev pub first_head : ℕ → ℕ → Result Shown ByteFault → Result RunHead RunFault
first_head model clock (Ok f) = head_said model clock f
first_head model clock (Err e) = Err (Bytes e)

abbrev pub entry_read : ℕ → Result Entry ByteFault → Result (Option EntryAt) RunFault
entry_read at (Ok e) = Ok (Some (record { entry = e; place = at }))
entry_read at (Err e) = Err (Bytes e)

abbrev pub entry_sort : Sort → Shown → Result (Option EntryAt) RunFault
entry_sort record_field f = entry_read f.place (entry_of f.place f.content)
entry_sort end_field f = Ok None
entry_sort s f = Err (Bytes (fault_at f.place))

-- the entry that a field behind the head says, or none where it is the end; any other field is misplaced
abbrev pub entry_said : Shown → Result (Option EntryAt) RunFault
entry_said f = entry_sort f.sort f

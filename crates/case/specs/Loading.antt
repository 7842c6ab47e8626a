-- Loading a run from bytes. Assumes nothing.
use Rattle.std.specs.Prelude.{◌≡◌, ℕ, ◌+◌, ◌*◌, ◌<◌, cond, List, [], ◌∷◌, ◌++◌, length, take, Some, None, Ok, Err, Option, Result, nat_lt}
use Rattle.memory.specs.declared.records.Record.{Record}
use Rattle.memory.specs.declared.refusals.Refusal.{Refusal}
use Rattle.memory.specs.declared.verdicts.Verdict.{Verdict}
use Rattle.memory.specs.Admission.{judgement}
use Rattle.wire.specs.declared.faults.ByteFault.{ByteFault}
use Rattle.wire.specs.declared.faults.RunFault.{RunFault}
use Rattle.wire.specs.declared.faults.RunFault.TheVariants.{Bytes, Content}
use Rattle.wire.specs.declared.fields.RunHead.{RunHead}
use Rattle.wire.specs.declared.fields.Text.TheVariants.{Run}
use Rattle.wire.specs.declared.runs.EntryAt.{EntryAt}
use Rattle.wire.specs.Bytes.{all_of, record_field, run_head, run_bytes}
use Rattle.wire.specs.Faults.{run_fault}
use Rattle.wire.specs.Fields.{Piece, pieces, Shown, fault_at, next_field, later}
use Rattle.wire.specs.Said.{first_head, entry_said}
use Rattle.case.specs.State.{State, opened, with_record}
use Rattle.case.specs.Calls.{Outcome, sealed_verdict, sealed}

-- the case after the fields of a run behind its head, and the place behind the end field, or the fault
pub record Loaded : Type 0 where
  pub state : State
  pub result : Result ℕ RunFault

abbrev pub ended_as : State → Result ℕ RunFault → Loaded
ended_as s r = record { state = s; result = r }

abbrev pub stopped : State → RunFault → Loaded
stopped s f = ended_as s (Err f)

-- an entry is admitted, and the next field follows; a refused one has the place of its field
abbrev pub load_judged : Result Record Refusal → ℕ → State → (State → Loaded) → Loaded
load_judged (Ok r) at s rest = rest (with_record s r)
load_judged (Err r) at s rest = stopped s (Content r at)

-- what a field behind the head says: an entry, or nothing where it is the end, behind which the place is `next`
abbrev pub load_said : Result (Option EntryAt) RunFault → ℕ → State → (State → Loaded) → Loaded
load_said (Ok (Some x)) next s rest = load_judged (judgement s.processors s.records x.entry) x.place s rest
load_said (Ok None) next s rest = ended_as s (Ok next)
load_said (Err e) next s rest = stopped s e

abbrev pub load_field : Result Shown ByteFault → State → (State → ℕ → Loaded) → Loaded
load_field (Ok f) s rest = let next : ℕ = f.place + 3 + length f.content in load_said (entry_said f) next s (λ t. rest t next)
load_field (Err e) s rest = stopped s (Bytes e)

-- the fields from the place at on
unfoldable pub load_fields : State → ℕ → List Piece → Loaded
load_fields s at [] = stopped s (Bytes (fault_at at))
load_fields s at (p ∷ ps) = load_field (next_field Run at (p ∷ ps)) s (λ t next. load_fields t next ps)

-- the place of a fault
abbrev pub place_of : RunFault → ℕ
place_of f = (run_fault f).place

-- behind the end no byte may follow; then the case is sealed
abbrev pub load_end : Result ℕ RunFault → ℕ → State → Outcome (Result (Option Verdict) RunFault)
load_end (Err f) n s = record { answer = Err f; state = s }
load_end (Ok place) n s = cond (nat_lt place n) (record { answer = Err (Bytes (fault_at place)); state = s }) (record { answer = Ok (sealed_verdict s.records); state = sealed s })

abbrev pub go_on : ℕ → Loaded → Outcome (Result (Option Verdict) RunFault)
go_on n l = load_end l.result n l.state

-- a head that is refused leaves the case as it was; otherwise the case begins anew
abbrev pub load_headed : Result RunHead RunFault → State → ℕ → List Piece → Outcome (Result (Option Verdict) RunFault)
load_headed (Ok h) s n ps = go_on n (load_fields (opened h.processors) 6 ps)
load_headed (Err e) s n ps = record { answer = Err e; state = s }

-- what loading the bytes under two marks answers, and the case after it
abbrev pub loading : ℕ → ℕ → State → List ℕ → Outcome (Result (Option Verdict) RunFault)
loading model clock s bs = load_headed (first_head model clock (next_field Run 0 (pieces bs))) s (length bs) (later (pieces bs))

-- the first bytes are exactly a head and the records of the case
abbrev pub Front : ℕ → ℕ → State → List ℕ → Type 0
Front model clock s bs = take (6 + 33 * length s.records) bs ≡ run_head s.processors model clock ++ all_of record_field s.records

-- a run that loads is written as the same bytes; at a refusal behind the head the case has the records before it, and at the head it is as it was
abbrev pub Kept : ℕ → ℕ → State → State → List ℕ → Result (Option Verdict) RunFault → Type 0
Kept model clock s t bs (Ok v) = run_bytes t.processors model clock t.records ≡ bs
Kept model clock s t bs (Err f) = (place_of f ≡ 0 → t ≡ s) × (0 < place_of f → Front model clock t bs)

-- the run that a case writes loads, whatever the other case was before, as the same processors and records
pub record Reloads (model clock : ℕ) (before s : State) (bs : List ℕ) : Type 0 where
  pub answer : (loading model clock before bs).answer ≡ Ok (sealed_verdict s.records)
  pub processors : (loading model clock before bs).state.processors ≡ s.processors
  pub records : (loading model clock before bs).state.records ≡ s.records

-- Reading a run into a list with so many places, by the rules of loading. Assumes nothing.
use Rattle.std.specs.Prelude.{◌≡◌, ℕ, ◌+◌, ◌*◌, Bool, true, false, List, length, take, Some, Option, nat_le}
use Rattle.std.specs.Result.{result_err}
use Rattle.memory.specs.declared.records.Record.{Record}
use Rattle.memory.specs.declared.refusals.Refusal.TheVariants as refuse
use Rattle.wire.specs.declared.faults.RunFault.{RunFault}
use Rattle.wire.specs.declared.faults.RunFault.TheVariants.{Content}
use Rattle.wire.specs.Bytes.{run_bytes}
use Rattle.case.specs.State.{opened}
use Rattle.case.specs.Loading.{loading}

-- the records up to the end or the fault, and the fault, if there is one
pub record ReadRun : Type 0 where
  pub records : List Record
  pub fault : Option RunFault

-- where the records have places, they are those that loading admits, and the fault is that of loading; the first record for which no place
-- is left is Short at its field: records have 33 bytes each, behind a head of 6
abbrev pub read_within : Bool → ℕ → List Record → Option RunFault → ReadRun
read_within true places rs f = record { records = rs; fault = f }
read_within false places rs f = record { records = take places rs; fault = Some (Content refuse.Short (6 + 33 * places)) }

-- the bytes of a run, read under two marks as a new case loads them; what verdict loading gives does not matter
abbrev pub read_run : ℕ → ℕ → ℕ → List ℕ → ReadRun
read_run model clock places bs = let o = loading model clock (opened 1) bs in read_within (nat_le (length o.state.records) places) places o.state.records (result_err o.answer)

-- the bytes are those of a run of these records, under two marks, for some number of processors
abbrev pub WrittenRun : ℕ → ℕ → List Record → List ℕ → Type 0
WrittenRun model clock rs bs = (p : ℕ) × (run_bytes p model clock rs ≡ bs)

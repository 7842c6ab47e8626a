-- What is lawful at admission, and which runs continue which. Assumes nothing.
use Rattle.std.specs.Prelude.{ℕ, Bool, true, cond, not, ◌&&◌, ◌||◌, List, [], ◌∷◌, ◌++◌, length, is_ok, Some, None, Ok, Err, fold, Option, Result, ◌==◌, nat_le, nat_lt}
use Rattle.memory.specs.declared.kinds.Kind.{Kind}
use Rattle.memory.specs.declared.records.Entry.{Entry}
use Rattle.memory.specs.declared.records.Record.{Record}
use Rattle.memory.specs.declared.refusals.Refusal.{Refusal}
use Rattle.memory.specs.declared.refusals.Refusal.TheVariants as refuse
use Rattle.memory.specs.Kinds.{kind_at, kind_number, is_store, is_fence}
use Rattle.std.specs.List.{list_any}
use Rattle.memory.specs.Limits.{most_records, most_processors, reading_limit}

-- a run may have p processors
abbrev pub opens : ℕ → Bool
opens p = nat_le 1 p && nat_le p most_processors

-- whether it may, or why not
abbrev pub opening_judgement : ℕ → Result (Unit {0}) Refusal
opening_judgement p = cond (opens p) (Ok tt) (Err refuse.Stranger)

-- the record that an entry is admitted as, where its kind is k
abbrev pub record_of : Kind → Entry → Record
record_of k e = record { processor = e.processor; kind = k; address = e.address; value = e.value; enter = e.enter; commit = e.commit }

-- the entry that a record was logged as
abbrev pub logged : Record → Entry
logged r = record { processor = r.processor; kind = kind_number r.kind; address = r.address; value = r.value; enter = r.enter; commit = r.commit }

-- there are as many records as a run may have
abbrev pub full : List Record → Bool
full rs = nat_le most_records (length rs)

-- the processor is none of the run's p
abbrev pub stranger : ℕ → Entry → Bool
stranger p e = nat_le p e.processor

-- a store of 0, or a fence with an address or a value
abbrev pub blank_entry : Kind → Entry → Bool
blank_entry k e = (is_store k && e.value == 0) || (is_fence k && not (e.address == 0 && e.value == 0))

-- a reading that is too large
abbrev pub beyond : Entry → Bool
beyond e = nat_le reading_limit e.enter || nat_le reading_limit e.commit

-- the enter reading of the last record of processor p, or 0
abbrev pub last_enter : List Record → ℕ → ℕ
last_enter rs p = fold (λ v r. cond (r.processor == p) r.enter v) 0 rs

-- commit below enter, or enter below the processor's last enter
abbrev pub backward : List Record → Entry → Bool
backward rs e = nat_lt e.commit e.enter || nat_lt e.enter (last_enter rs e.processor)

-- the record r is a store with the address and value of e
abbrev pub same_store : Entry → Record → Bool
same_store e r = is_store r.kind && (r.address == e.address && r.value == e.value)

-- a store equal in address and value to an admitted one
abbrev pub twin : Kind → List Record → Entry → Bool
twin k rs e = is_store k && list_any (same_store e) rs

-- an entry of kind k, judged by what it holds
abbrev pub judge_kind : Option Kind → List Record → Entry → Result Record Refusal
judge_kind None rs e = Err refuse.Kind
judge_kind (Some k) rs e =
    cond (blank_entry k e) (Err refuse.Blank)
    (cond (beyond e) (Err refuse.Range)
    (cond (backward rs e) (Err refuse.Backward)
    (cond (twin k rs e) (Err refuse.Twin) (Ok (record_of k e)))))

-- the record that an entry becomes in a run of p processors with the records rs, or why it is refused
abbrev pub judgement : ℕ → List Record → Entry → Result Record Refusal
judgement p rs e =
    cond (full rs) (Err refuse.Full)
    (cond (stranger p e) (Err refuse.Stranger) (judge_kind (kind_at e.kind) rs e))

-- an open case of p processors with the records rs would admit the others, one by one: rs and then these continue rs
abbrev pub admits : ℕ → List Record → List Record → Bool
admits p rs [] = true
admits p rs (r ∷ more) = is_ok (judgement p rs (logged r)) && admits p (rs ++ r ∷ []) more

-- every address has 32 bits and every value 64, as the types of the code say
abbrev pub sized : List Record → Bool
sized [] = true
sized (r ∷ rs) = (nat_lt r.address 4294967296 && nat_lt r.value 18446744073709551616) && sized rs

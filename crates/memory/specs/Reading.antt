-- Which store a load reads, and orphans. Assumes nothing.
use Rattle.std.specs.Prelude.{◌≡◌, ℕ, zero, suc, ◌<◌, ◌≤◌, Bool, true, false, cond, not, ◌&&◌, List, length, Some, None, Option, ◌==◌, nat_le, nat_lt}
use Rattle.memory.specs.declared.records.Record.{Record}
use Rattle.memory.specs.Kinds.{is_load, is_store}
use Rattle.std.specs.List.{list_any}
use Rattle.memory.specs.Runs.{at}

-- x is a load of a value other than 0, and w the store with its address and value
abbrev pub reads_from : Record → Record → Bool
reads_from x w = is_load x.kind && (not (x.value == 0) && (is_store w.kind && (w.address == x.address && w.value == x.value)))

-- x is a load of a value other than 0 that reads no store of rs
abbrev pub unread : List Record → Record → Bool
unread rs x = is_load x.kind && (not (x.value == 0) && not (list_any (reads_from x) rs))

-- record l of the run is an orphan: it reads none of its stores
abbrev pub orphan : List Record → ℕ → Bool
orphan rs l = unread rs (at rs l)

-- l is the number of a record of the run, and that is an orphan
abbrev pub names_orphan : List Record → ℕ → Bool
names_orphan rs l = nat_lt 0 l && (nat_le l (length rs) && orphan rs l)

-- a, unless it is 0, and else b
abbrev pub first_of : ℕ → ℕ → ℕ
first_of zero b = b
first_of (suc a) b = suc a

-- the least of 1 to n that passes, or 0 where none does
abbrev pub pick : (ℕ → Bool) → ℕ → ℕ
pick p zero = 0
pick p (suc n) = first_of (pick p n) (cond (p (suc n)) (suc n) 0)

-- a record's number, where 0 stands for none
abbrev pub numbered : ℕ → Option ℕ
numbered zero = None
numbered (suc n) = Some (suc n)

-- the smallest orphan, if there is one
abbrev pub first_orphan : List Record → Option ℕ
first_orphan rs = numbered (pick (orphan rs) (length rs))

-- what the least of 1 to n that passes is, as a relation
abbrev pub Least : (ℕ → Bool) → ℕ → Option ℕ → Type 0
Least p n None = (k : ℕ) → 0 < k → k ≤ n → p k ≡ false
Least p n (Some l) = (0 < l) × (l ≤ n) × (p l ≡ true) × ((k : ℕ) → 0 < k → k < l → p k ≡ false)

-- What an address holds is what the last store to it left there.
use Rattle.std.proofs.Common.{◌≡◌, ℕ, zero, suc, ◌<◌, Bool, true, false, cond, ◌⊎◌, inl, inr, List, [], ◌∷◌, length, fold, slice_index, refl, sym, arith, subst}
use Rattle.memory.specs.declared.records.Record.{Record}
use Rattle.memory.specs.Runs.{at}
use Rattle.explaining.specs.Memory.{stores, held, HoldsLast}

-- from some value on: it stays, and no record is a store to the address, or it is that of the last store to it
abbrev pub LastFrom : List Record → List ℕ → ℕ → ℕ → ℕ → Type 0
LastFrom rs xs a from v =
    (((i : ℕ) × (i < length xs) × (stores rs a (slice_index xs i) ≡ true) × (v ≡ (at rs (slice_index xs i)).value) × ((j : ℕ) → i < j → j < length xs → stores rs a (slice_index xs j) ≡ false))
    ⊎ ((v ≡ from) × ((j : ℕ) → j < length xs → stores rs a (slice_index xs j) ≡ false)))

abbrev pub held_from : List Record → ℕ → ℕ → List ℕ → ℕ
held_from rs a from xs = fold (λ v x. cond (stores rs a x) (at rs x).value v) from xs

-- a record before the others, which is a store to the address or not
pub last_before : (rs : List Record) (a x : ℕ) (xs : List ℕ) (from v : ℕ) (b : Bool) → stores rs a x ≡ b → LastFrom rs xs a (cond b (at rs x).value from) v → LastFrom rs (x ∷ xs) a from v
last_before rs a x xs from v b is (inl (i, lt, stored, value, later)) =
    inl (suc i, omega arith, stored, value, λ j. elim j as (λ j. suc i < j → j < length (x ∷ xs) → stores rs a (slice_index (x ∷ xs) j) ≡ false) [ zero ↦ λ h k. absurd (omega arith) | suc j ↦ λ h k. later j (omega arith) (omega arith) ])
last_before rs a x xs from v true is (inr (value, none)) =
    inl (zero, omega arith, is, value, λ j. elim j as (λ j. zero < j → j < length (x ∷ xs) → stores rs a (slice_index (x ∷ xs) j) ≡ false) [ zero ↦ λ h k. absurd (omega arith) | suc j ↦ λ h k. none j (omega arith) ])
last_before rs a x xs from v false is (inr (value, none)) =
    inr (value, λ j. elim j as (λ j. j < length (x ∷ xs) → stores rs a (slice_index (x ∷ xs) j) ≡ false) [ zero ↦ λ k. is | suc j ↦ λ k. none j (omega arith) ])

pub last_from : (rs : List Record) (a : ℕ) (xs : List ℕ) (from : ℕ) → LastFrom rs xs a from (held_from rs a from xs)
last_from rs a [] from = inr (refl, λ j h. absurd (omega arith))
last_from rs a (x ∷ xs) from = last_before rs a x xs from (held_from rs a from (x ∷ xs)) (stores rs a x) refl (last_from rs a xs (cond (stores rs a x) (at rs x).value from))

pub holds_last : (rs : List Record) (xs : List ℕ) (a v : ℕ) → v ≡ held rs xs a → HoldsLast rs xs a v
holds_last rs xs a v is = let P : ℕ → Type 0 = HoldsLast rs xs a in subst P (sym is) (last_from rs a xs 0)

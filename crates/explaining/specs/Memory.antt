-- What memory holds while the records of a run come in an order. Assumes nothing.
use Rattle.std.specs.Prelude.{◌≡◌, ℕ, ◌<◌, Bool, true, false, cond, not, ◌&&◌, ◌⊎◌, List, [], ◌∷◌, ◌++◌, length, map, codes, fold, ◌==◌, slice_index}
use Rattle.std.specs.List.{list_any, flat_map}
use Rattle.std.specs.Fmt.{decimal}
use Rattle.memory.specs.declared.records.Record.{Record}
use Rattle.memory.specs.Kinds.{is_store}
use Rattle.memory.specs.Runs.{at, has}
use Rattle.telling.specs.Words.{address_words}
use Rattle.explaining.specs.declared.contents.Cell.{Cell}

-- the record with the number x is a store to address a
abbrev pub stores : List Record → ℕ → ℕ → Bool
stores rs a x = is_store (at rs x).kind && (at rs x).address == a

-- what address a holds after the records with the numbers xs, in their order: the value of the last store to it among them, or 0 where there is none
abbrev pub held : List Record → List ℕ → ℕ → ℕ
held rs xs a = fold (λ v x. cond (stores rs a x) (at rs x).value v) 0 xs

-- the same as a relation: v is the value of a store to a that no other comes after, or there is no store to a, and v is 0
abbrev pub HoldsLast : List Record → List ℕ → ℕ → ℕ → Type 0
HoldsLast rs xs a v =
    (((i : ℕ) × (i < length xs) × (stores rs a (slice_index xs i) ≡ true) × (v ≡ (at rs (slice_index xs i)).value) × ((j : ℕ) → i < j → j < length xs → stores rs a (slice_index xs j) ≡ false))
    ⊎ ((v ≡ 0) × ((j : ℕ) → j < length xs → stores rs a (slice_index xs j) ≡ false)))

-- the address of a store more, unless it is among them
abbrev pub with_store : List ℕ → Record → List ℕ
with_store seen r = cond (is_store r.kind && not (has seen r.address)) (seen ++ r.address ∷ []) seen

-- the addresses that the records with the numbers xs store to, in the order in which they first do
abbrev pub written : List Record → List ℕ → List ℕ
written rs xs = fold (λ seen x. with_store seen (at rs x)) [] xs

-- they are just those that some of these records store to
abbrev pub AreWritten : List Record → List ℕ → List ℕ → Type 0
AreWritten rs xs seen = (a : ℕ) → has seen a ≡ list_any (stores rs a) xs

abbrev pub cell : ℕ → ℕ → Cell
cell a v = record { address = a; value = v }

-- each written address with what it holds
abbrev pub cells : List Record → List ℕ → List Cell
cells rs xs = map (λ a. cell a (held rs xs a)) (written rs xs)

abbrev pub cell_words : Cell → List ℕ
cell_words c = address_words c.address ++ (codes " = " ++ decimal c.value)

abbrev pub memory_words : List Cell → List ℕ
memory_words cs = flat_map (λ c. codes "  " ++ cell_words c) cs

-- Legal orders of a run, and what a verdict claims. Assumes nothing.
use Rattle.std.specs.Prelude.{◌≡◌, ℕ, ◌<◌, Bool, true, cond, ◌&&◌, List, length, take, Some, None, fold, Option, ◌==◌, slice_index}
use Rattle.memory.specs.declared.verdicts.Verdict.{Verdict}
use Rattle.memory.specs.declared.verdicts.Verdict.TheVariants.{Order, Opposed, Orphan, Exhausted}
use Rattle.memory.specs.Runs.{Run, Known}

-- record x is a store to address a
abbrev pub writes : Run → ℕ → ℕ → Bool
writes R x a = R.store x && R.addr x == a

-- what address a holds after the records of xs, in their order: the value of the last store to it, or 0
abbrev pub memory : Run → List ℕ → ℕ → ℕ
memory R xs a = fold (λ v x. cond (writes R x a) (R.value x) v) 0 xs

-- a legal order of the run
pub record Legal (R : Run) (order : List ℕ) : Type 0 where
  -- it has every record once: as many places as there are records, a record at each, none at two
  pub long : length order ≡ R.size
  pub known : (i : ℕ) → i < length order → Known R (slice_index order i)
  pub once : (i j : ℕ) → i < length order → j < length order → slice_index order i ≡ slice_index order j → i ≡ j
  -- of two records that the model orders, the earlier comes first
  pub model : (i j : ℕ) → i < length order → j < length order → R.model (slice_index order i) (slice_index order j) ≡ true → i < j
  -- where the clock calls a commit surely earlier than an enter, the record that commits comes first
  pub clock : (i j : ℕ) → i < length order → j < length order → R.clock (slice_index order i) (slice_index order j) ≡ true → i < j
  -- each load has the value of the last store before it to its address, or 0
  pub reads : (i : ℕ) → i < length order → R.load (slice_index order i) ≡ true → R.value (slice_index order i) ≡ memory R (take i order) (R.addr (slice_index order i))

-- no order of the run is legal
abbrev pub NoOrder : Run → Type 0
NoOrder R = (order : List ℕ) → Legal R order → ⊥

-- what a verdict claims of a run: of an order that it is legal, of the others that no order is; undecided claims nothing
abbrev pub Claims : Run → List ℕ → Option Verdict → Type 0
Claims R order None = Unit {0}
Claims R order (Some Order) = Legal R order
Claims R order (Some Opposed) = NoOrder R
Claims R order (Some (Orphan l)) = NoOrder R
Claims R order (Some Exhausted) = NoOrder R

-- A run under a model and a clock, by the numbers of its records, from 1. Assumes nothing.
use Rattle.std.specs.Prelude.{ℕ, ◌-◌, ◌<◌, ◌≤◌, Bool, not, ◌&&◌, ◌||◌, List, length, ◌==◌, nat_lt, slice_index_or}
use Rattle.std.specs.List.{list_any}
use Rattle.memory.specs.declared.kinds.Kind.{Kind}
use Rattle.memory.specs.declared.kinds.Kind.TheVariants.{Load}
use Rattle.memory.specs.declared.records.Record.{Record}
use Rattle.memory.specs.Kinds.{is_load, is_store, is_fence}

-- a model and a clock, each the relation that it is, with its mark
pub record Setting : Type 0 where
  pub orders : Kind → Kind → Bool → Bool
  pub earlier : ℕ → ℕ → ℕ → ℕ → Bool
  pub model_mark : ℕ
  pub clock_mark : ℕ

abbrev pub setting : (Kind → Kind → Bool → Bool) → (ℕ → ℕ → ℕ → ℕ → Bool) → ℕ → ℕ → Setting
setting orders earlier m c = record { orders = orders; earlier = earlier; model_mark = m; clock_mark = c }

-- what the records 1 to size are; of any other number it says nothing
pub record Run : Type 0 where
  pub size : ℕ
  -- a and b are of one processor, a is the earlier in program order, and the model orders them
  pub model : ℕ → ℕ → Bool
  -- the clock calls the commit of a surely earlier than the enter of b
  pub clock : ℕ → ℕ → Bool
  pub load : ℕ → Bool
  pub store : ℕ → Bool
  pub addr : ℕ → ℕ
  pub value : ℕ → ℕ

-- a is among xs
abbrev pub has : List ℕ → ℕ → Bool
has xs a = list_any (λ x. x == a) xs

-- the model or the clock puts a before b
abbrev pub must_precede : Run → ℕ → ℕ → Bool
must_precede R a b = R.model a b || R.clock a b

-- a is the number of a record of the run
pub record Known (R : Run) (a : ℕ) : Type 0 where
  pub some : 0 < a
  pub within : a ≤ R.size

-- what is read where there is no record
abbrev pub blank : Record
blank = record { processor = 0; kind = Load; address = 0; value = 0; enter = 0; commit = 0 }

-- the record with the number a
abbrev pub at : List Record → ℕ → Record
at rs a = slice_index_or rs (a - 1) blank

-- two records share their address; a fence shares it with nothing
abbrev pub shares : Record → Record → Bool
shares x y = not (is_fence x.kind) && (not (is_fence y.kind) && x.address == y.address)

-- the records x and y are of one processor, and the model orders x before a later y
abbrev pub keeps : Setting → Record → Record → Bool
keeps S x y = x.processor == y.processor && S.orders x.kind y.kind (shares x y)

-- the run that admitted records make; on one processor their numbers are program order
abbrev pub run_of : Setting → List Record → Run
run_of S rs = record {
  size = length rs;
  model = λ a b. nat_lt a b && keeps S (at rs a) (at rs b);
  clock = λ a b. S.earlier (at rs a).processor (at rs a).commit (at rs b).processor (at rs b).enter;
  load = λ a. is_load (at rs a).kind;
  store = λ a. is_store (at rs a).kind;
  addr = λ a. (at rs a).address;
  value = λ a. (at rs a).value;
}

-- The kinds of records and their numbers.
use Rattle.std.specs.Prelude.{ℕ, Bool, true, false, cond, Some, None, Option, ◌==◌}
use Rattle.memory.specs.declared.kinds.Kind.{Kind}
use Rattle.memory.specs.declared.kinds.Kind.TheVariants.{Load, Store, Fence}

abbrev pub kind_number : Kind → ℕ
kind_number Load = 1
kind_number Store = 2
kind_number Fence = 3

-- the kind with a number, if there is one
abbrev pub kind_at : ℕ → Option Kind
kind_at n = cond (n == 1) (Some Load) (cond (n == 2) (Some Store) (cond (n == 3) (Some Fence) None))

abbrev pub is_load : Kind → Bool
is_load Load = true
is_load Store = false
is_load Fence = false

abbrev pub is_store : Kind → Bool
is_store Load = false
is_store Store = true
is_store Fence = false

abbrev pub is_fence : Kind → Bool
is_fence Load = false
is_fence Store = false
is_fence Fence = true

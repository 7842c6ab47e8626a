-- The models that have a name: of an earlier and a later record of one processor, by their kinds and whether they share their address.
use Rattle.std.specs.Prelude.{Bool, true}
use Rattle.memory.specs.declared.kinds.Kind.{Kind}
use Rattle.memory.specs.declared.kinds.Kind.TheVariants.{Load, Store, Fence}
use Rattle.memory.specs.Kinds.{is_fence}

-- sequential consistency orders every pair
abbrev pub sc : Kind → Kind → Bool → Bool
sc earlier later same = true

-- Godson orders only a fence before a later load, and everything before a later store or fence
abbrev pub godson : Kind → Kind → Bool → Bool
godson earlier Load same = is_fence earlier
godson earlier Store same = true
godson earlier Fence same = true

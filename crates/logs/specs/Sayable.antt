-- What a text can say. Assumes nothing.
use Rattle.std.specs.Prelude.{◌≡◌, ℕ, ◌<◌, ◌≤◌, ◌^◌}
use Rattle.memory.specs.declared.kinds.Kind.{Kind}
use Rattle.memory.specs.declared.kinds.Kind.TheVariants.{Load, Store, Fence}
use Rattle.memory.specs.declared.records.Entry.{Entry}
use Rattle.memory.specs.declared.records.Record.{Record}
use Rattle.logs.specs.declared.statements.Statement.{Statement}
use Rattle.logs.specs.declared.statements.Statement.TheVariants as statement

-- a load or a store
abbrev pub IsAccess : Kind → Type 0
IsAccess Load = Unit {0}
IsAccess Store = Unit {0}
IsAccess Fence = ⊥

-- a fence has neither address nor value
abbrev pub IsBlankFence : Kind → ℕ → ℕ → Type 0
IsBlankFence Load address value = Unit {0}
IsBlankFence Store address value = Unit {0}
IsBlankFence Fence address value = (address ≡ 0) × (value ≡ 0)

-- an entry that a text can say: of processor 254 at most, a fence without address and value, and all numbers fit their types
pub record Sayable (e : Entry) : Type 0 where
  pub processor : e.processor ≤ 254
  pub kind : (1 ≤ e.kind) × (e.kind ≤ 3)
  pub address : e.address < 2 ^ 32
  pub value : e.value < 2 ^ 64
  pub enter : e.enter < 2 ^ 64
  pub commit : e.commit < 2 ^ 64
  pub fence_address : e.kind ≡ 3 → e.address ≡ 0
  pub fence_value : e.kind ≡ 3 → e.value ≡ 0

-- if it says an access, one of these entries
abbrev pub SaysSayable : Statement → Type 0
SaysSayable statement.Nothing = Unit {0}
SaysSayable (statement.Model m) = Unit {0}
SaysSayable (statement.Clock c) = Unit {0}
SaysSayable (statement.Processors n) = Unit {0}
SaysSayable (statement.Access e) = Sayable e

-- a record that its line says whole: of processor 254 at most, a fence without address and value
pub record Printable (r : Record) : Type 0 where
  pub processor : r.processor ≤ 254
  pub fence : IsBlankFence r.kind r.address r.value

-- its numbers fit their types
pub record Fits (r : Record) : Type 0 where
  pub address : r.address < 2 ^ 32
  pub value : r.value < 2 ^ 64
  pub enter : r.enter < 2 ^ 64
  pub commit : r.commit < 2 ^ 64

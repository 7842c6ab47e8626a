-- What lines say of orders. Assumes nothing.
use Rattle.std.specs.Prelude.{◌≡◌, ℕ, ◌<◌, Bool, true, List, ◌++◌, length, slice_index}
use Rattle.memory.specs.declared.lines.Line.{Line}
use Rattle.memory.specs.declared.records.Record.{Record}
use Rattle.memory.specs.Runs.{Setting, run_of}
use Rattle.inference.specs.Rules.{listed, follows}

-- a stands in the order before b
abbrev pub Before : List ℕ → ℕ → ℕ → Type 0
Before order a b = (i : ℕ) × (j : ℕ) × (i < j) × (j < length order) × (slice_index order i ≡ a) × (slice_index order j ≡ b)

-- each listed pair stands in the order as it is listed
abbrev pub Holds : List Line → List ℕ → Type 0
Holds ls order = (a b : ℕ) → listed ls a b ≡ true → Before order a b

-- the line is opposed to a listed one, which has its pair reversed
abbrev pub opposes : List Line → Line → Bool
opposes ls l = listed ls l.second l.first

-- what follows from these records follows from them and any more
abbrev pub Stays : Setting → List Record → List Line → Line → Type 0
Stays S rs ls l = (more : List Record) → follows (run_of S rs) ls l ≡ true → follows (run_of S (rs ++ more)) ls l ≡ true

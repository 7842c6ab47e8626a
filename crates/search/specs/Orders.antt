-- Whether an order is legal, tested record by record. Assumes nothing.
use Rattle.std.specs.Prelude.{ℕ, Bool, true, not, ◌&&◌, List, [], ◌∷◌, ◌++◌, length, ◌==◌}
use Rattle.memory.specs.Runs.{Run, must_precede}
use Rattle.inference.specs.Rules.{known}
use Rattle.search.specs.Placing.{placeable}

-- record k may come next, behind the records of front: it need not come before itself, and it may be placed there without any lines
abbrev pub may_follow : Run → List ℕ → ℕ → Bool
may_follow R front k = known R k && (not (must_precede R k k) && placeable R [] front k)

-- each of these may follow those before it, the records of front first
abbrev pub all_follow : Run → List ℕ → List ℕ → Bool
all_follow R front [] = true
all_follow R front (k ∷ more) = may_follow R front k && all_follow R (front ++ k ∷ []) more

-- the order has as many records as the run, and each may follow those before it: `Legal`, computed
unfoldable pub legal_order : Run → List ℕ → Bool
legal_order R order = length order == R.size && all_follow R [] order

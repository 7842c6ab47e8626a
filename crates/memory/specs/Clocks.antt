-- What clocks answer: is reading s of processor p surely earlier than reading t of processor q?
use Rattle.std.specs.Prelude.{◌≡◌, ℕ, ◌≤◌, Bool, false, nat_lt}

-- the law of clocks: on one processor no reading is earlier than an equal or smaller one
abbrev pub LawfulClock : (ℕ → ℕ → ℕ → ℕ → Bool) → Type 0
LawfulClock earlier = (p s t : ℕ) → t ≤ s → earlier p s p t ≡ false

-- Global: one counter for all processors
abbrev pub below : ℕ → ℕ → ℕ → ℕ → Bool
below p s q t = nat_lt s t

-- None: the counters say nothing
abbrev pub never : ℕ → ℕ → ℕ → ℕ → Bool
never p s q t = false

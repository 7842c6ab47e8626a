-- Inferring: next lines listed one by one, up to a number, to the last, or to one that is opposed to a listed one. Assumes nothing.
use Rattle.std.specs.Prelude.{◌≡◌, ℕ, zero, suc, ◌<◌, Bool, true, false, List, [], ◌∷◌, ◌++◌, Some, None, Option}
use Rattle.memory.specs.declared.lines.Line.{Line}
use Rattle.memory.specs.Runs.{Run}
use Rattle.inference.specs.Next.{Next, next}
use Rattle.inference.specs.Worth.{opposes}

-- how many lines were listed, the list after, and whether its last line is opposed to one before it
pub record Listing : Type 0 where
  pub count : ℕ
  pub lines : List Line
  pub opposed : Bool

-- what inferring up to k lines does to a list
pub data Lists (R : Run) : ℕ → List Line → Listing → Type 0 where
  -- none is asked for
  enough : {ls : List Line} → Lists R 0 ls (record { count = 0; lines = ls; opposed = false })
  -- none follows
  last : {k : ℕ} {ls : List Line} → Next R ls None → Lists R (suc k) ls (record { count = 0; lines = ls; opposed = false })
  -- the next line is opposed to a listed one: it is listed, and ends it
  stop : {k : ℕ} {ls : List Line} (l : Line) → Next R ls (Some l) → opposes ls l ≡ true → Lists R (suc k) ls (record { count = 1; lines = ls ++ l ∷ []; opposed = true })
  -- it is opposed to none: it is listed, and inferring goes on
  onward : {k : ℕ} {ls : List Line} (l : Line) (r : Listing) → Next R ls (Some l) → opposes ls l ≡ false → Lists R k (ls ++ l ∷ []) r → Lists R (suc k) ls (record { count = suc r.count; lines = r.lines; opposed = r.opposed })

-- fewer lines than asked for, and none opposed: no line follows
abbrev pub Out : Run → ℕ → Listing → Type 0
Out R k r = r.opposed ≡ false → r.count < k → Next R r.lines None

-- the same, computed
abbrev pub one_more : Listing → Listing
one_more r = record { count = suc r.count; lines = r.lines; opposed = r.opposed }

abbrev pub list_by : Bool → List Line → Line → (List Line → Listing) → Listing
list_by true ls l rest = record { count = 1; lines = ls ++ l ∷ []; opposed = true }
list_by false ls l rest = one_more (rest (ls ++ l ∷ []))

abbrev pub list_next : Option Line → List Line → (List Line → Listing) → Listing
list_next None ls rest = record { count = 0; lines = ls; opposed = false }
list_next (Some l) ls rest = list_by (opposes ls l) ls l rest

unfoldable pub list_lines : Run → ℕ → List Line → Listing
list_lines R zero ls = record { count = 0; lines = ls; opposed = false }
list_lines R (suc k) ls = list_next (next R ls) ls (λ more. list_lines R k more)

-- The next line finds room, and so do those that are listed after it. Assumes nothing.
use Rattle.std.proofs.Common.{◌≡◌, ℕ, ◌<◌, ◌≤◌, true, List, [], ◌∷◌, ◌++◌, length, arith, length-append}
use Rattle.memory.specs.declared.lines.Line.{Line}
use Rattle.memory.specs.Limits.{most_lines, most_records}
use Rattle.memory.specs.Runs.{Run}
use Rattle.inference.specs.Listing.{Listing, Lists, enough, last, stop, onward}
use Rattle.inference.specs.Next.{fits}
use Rattle.inference.specs.Paired.{paired}
use Rattle.inference.proofs.Pairs.{few_lines_64, paired_push}

pub room_left : (R : Run) (ls : List Line) (l : Line) → R.size ≤ most_records → paired most_records ls ≡ true → fits R ls l ≡ true → length ls < most_lines
room_left R ls l few h fit = omega (arith, few_lines_64 64 (ls ++ l ∷ []) (omega arith) (paired_push R 64 few ls l h fit), length-append ls (l ∷ []))

pub lists_paired : {R : Run} {k : ℕ} {ls : List Line} {r : Listing} → Lists R k ls r → (n : ℕ) → R.size ≤ n → paired n ls ≡ true → paired n r.lines ≡ true
lists_paired enough n few h = h
lists_paired (last is) n few h = h
lists_paired {R} {ls = ls} (stop l is test) n few h = paired_push R n few ls l h is.0
lists_paired {R} {ls = ls} (onward l r is test more) n few h = lists_paired more n few (paired_push R n few ls l h is.0)

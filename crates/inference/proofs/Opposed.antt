-- What is listed is founded, and a line that is opposed is the last. Assumes nothing.
use Rattle.std.proofs.Common.{◌≡◌, ℕ, true, not, List, [], ◌∷◌, ◌++◌, refl, sym}
use Rattle.std.proofs.lemmas.Bool.{and_parts, true≢false}
use Rattle.memory.specs.declared.lines.Line.{Line}
use Rattle.memory.specs.Runs.{Run}
use Rattle.inference.specs.Listing.{Listing, Lists, enough, last, stop, onward}
use Rattle.inference.specs.Next.{fits}
use Rattle.inference.specs.Rules.{listed, follows}
use Rattle.inference.specs.Worth.{opposes}
use Rattle.inference.proofs.Sound.{founded, founded_push}

with_next : (R : Run) (ls : List Line) (l : Line) → fits R ls l ≡ true → founded R [] ls ≡ true → founded R [] (ls ++ l ∷ []) ≡ true
with_next R ls l fit h = founded_push R ls l h (and_parts (follows R ls l) (not (listed ls l.first l.second)) fit).0

pub lists_founded : {R : Run} {k : ℕ} {ls : List Line} {r : Listing} → Lists R k ls r → founded R [] ls ≡ true → founded R [] r.lines ≡ true
lists_founded enough h = h
lists_founded (last is) h = h
lists_founded {R} {ls = ls} (stop l is test) h = with_next R ls l is.0 h
lists_founded {R} {ls = ls} (onward l r is test more) h = lists_founded more (with_next R ls l is.0 h)

-- where a line was opposed, it is the last that was listed
pub lists_last : {R : Run} {k : ℕ} {ls : List Line} {r : Listing} → Lists R k ls r → r.opposed ≡ true → (front : List Line) × (l : Line) × (r.lines ≡ front ++ l ∷ []) × (opposes front l ≡ true)
lists_last enough e = absurd (true≢false (sym e))
lists_last (last is) e = absurd (true≢false (sym e))
lists_last {ls = ls} (stop l is test) e = (ls, l, refl, test)
lists_last (onward l r is test more) e = lists_last more e

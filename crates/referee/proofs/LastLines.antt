-- A last line that is opposed to an earlier one. Assumes nothing.
use Rattle.std.proofs.Common.{◌≡◌, ℕ, true, List, [], ◌∷◌, ◌++◌, reverse, refl, sym, ap, ◌∙◌, subst}
use Rattle.std.proofs.lemmas.Bool.{both_ways}
use Rattle.std.proofs.lemmas.List.{reverse-append, reverse-reverse}
use Rattle.memory.specs.declared.lines.Line.{Line}
use Rattle.inference.specs.Rules.{listed}
use Rattle.inference.specs.Worth.{opposes}
use Rattle.inference.proofs.Listed.{listed_still, listed_last}
use Rattle.referee.specs.Lines.{newest_opposed, last_opposed}

pub last_opposed_end : (front : List Line) (l : Line) → last_opposed (front ++ l ∷ []) ≡ opposes front l
last_opposed_end front l = ap newest_opposed (reverse-append front (l ∷ [])) ∙ ap (λ ls. opposes ls l) (reverse-reverse front)

-- two lines of the list have the same two records, in both ways
abbrev pub TwoOpposed : List Line → Type 0
TwoOpposed ls = (a : ℕ) × (b : ℕ) × (listed ls a b ≡ true) × (listed ls b a ≡ true)

pub two_opposed : (ls : List Line) → last_opposed ls ≡ true → TwoOpposed ls
two_opposed ls e = subst TwoOpposed (reverse-reverse ls) (go (reverse ls) e)
  where
    go : (back : List Line) → newest_opposed back ≡ true → TwoOpposed (reverse back)
    go [] h = absurd (both_ways _ refl h)
    go (l ∷ back) h =
        let front : List Line = reverse back in
        subst TwoOpposed (sym (reverse-append (l ∷ []) back)) (l.first, l.second, listed_last front l, listed_still front l l.second l.first h)

-- What is listed where one line more is. Assumes nothing.
use Rattle.std.proofs.Common.{◌≡◌, ℕ, true, ◌||◌, eqb, List, [], ◌∷◌, ◌++◌, refl, ap, ◌∙◌}
use Rattle.std.proofs.lemmas.List.Folds.{list_any-append}
use Rattle.std.proofs.Math.Bool.{or-false}
use Rattle.std.proofs.lemmas.Bool.{and_from, or_left, or_right, eq-eqb}
use Rattle.memory.specs.declared.lines.Line.{Line}
use Rattle.inference.specs.Rules.{has_pair, listed}

module _ (ls : List Line) (l : Line) where
  pub listed_push : (a b : ℕ) → listed (ls ++ l ∷ []) a b ≡ (listed ls a b || has_pair a b l)
  listed_push a b = list_any-append (has_pair a b) ls (l ∷ []) ∙ ap (λ x. listed ls a b || x) (or-false (has_pair a b l))

  pub listed_still : (a b : ℕ) → listed ls a b ≡ true → listed (ls ++ l ∷ []) a b ≡ true
  listed_still a b h = listed_push a b ∙ or_left (listed ls a b) (has_pair a b l) h

  pub listed_last : listed (ls ++ l ∷ []) l.first l.second ≡ true
  listed_last =
      listed_push l.first l.second
      ∙ or_right (listed ls l.first l.second) _ (and_from (eqb l.first l.first) (eqb l.second l.second) (eq-eqb _ _ refl) (eq-eqb _ _ refl))

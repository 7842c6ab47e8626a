-- Which thirds need be looked at. Assumes nothing.
use Rattle.std.proofs.Common.{◌≡◌, ℕ, true, false, not, eqb, List, Some, None, Option, sym, refl, ap, ◌∙◌, arith}
use Rattle.std.proofs.lemmas.Bool.{and_left, and_right, ne_eqb, not_from_true}
use Rattle.memory.specs.declared.lines.Line.{Line}
use Rattle.memory.specs.declared.lines.Rule.{Rule}
use Rattle.memory.specs.Runs.{Run}
use Rattle.inference.specs.Rules.{known, listed, by_rule, names_third, third_fits, follows}
use Rattle.inference.specs.Next.{or_else, seek, line_of, if_fits, tried, least_of_pair}
use Rattle.inference.proofs.First.{seek_none}

or_none : {X : Type 0} (o : Option X) → or_else o None ≡ o
or_none None = refl
or_none (Some x) = refl

module _ (R : Run) (ls : List Line) (r : Rule) (a b : ℕ) where
  -- a third that the rule does not name
  misfit : (c : ℕ) → third_fits R (names_third r) c ≡ false → tried R ls r a b c ≡ None
  misfit c no' =
      let l = line_of r a b c in
      ap (λ t. if_fits t l)
      (and_left (follows R ls l) _ (and_right (known R a) _ (and_right (known R b) _ (and_right (not (eqb a b)) _ (and_left (third_fits R (names_third r) c) (by_rule R ls r a b c) no')))))

  -- only 0 is looked at where the rule names no third
  pub only_zero : names_third r ≡ false → tried R ls r a b 0 ≡ least_of_pair R ls r a b
  only_zero is =
      let none = seek_none (tried R ls r a b) R.size (λ c some. misfit c (ap (λ t. third_fits R t c) is ∙ ne_eqb c 0 (omega arith))) in
      sym (ap (or_else (tried R ls r a b 0)) none ∙ or_none (tried R ls r a b 0))

  -- and only records where it names one
  pub only_records : names_third r ≡ true → seek (tried R ls r a b) R.size ≡ least_of_pair R ls r a b
  only_records is = sym (ap (λ o. or_else o (seek (tried R ls r a b) R.size)) (misfit 0 (ap (λ t. third_fits R t 0) is)))

  -- a listed pair is not new
  pub not_new : listed ls a b ≡ true → least_of_pair R ls r a b ≡ None
  not_new is =
      let old : (c : ℕ) → tried R ls r a b c ≡ None = λ c. ap (λ t. if_fits t (line_of r a b c)) (and_right (follows R ls (line_of r a b c)) _ (not_from_true (listed ls a b) is)) in
      ap (λ o. or_else o (seek (tried R ls r a b) R.size)) (old 0) ∙ seek_none (tried R ls r a b) R.size (λ c some. old c)

-- What words ask for behind a word that is known.
use Rattle.std.proofs.Common.{String, string_bytes, ◌≡◌, ℕ, List, ◌∷◌, codes, slice_index, sym, ◌∙◌, ap, subst, Option, None, Some, MatchOption, arith}
use Rattle.std.specs.declared.alloc.Global.{Global}
use Rattle.intake.specs.Arguments.{texts, NamesSteps}
use Rattle.tables.specs.declared.forms.Form.TheVariants as form
use Rattle.tables.specs.declared.requests.Options.{Options}
use Rattle.tables.specs.declared.requests.Runs.{Runs}
use Rattle.tables.specs.Requests.{begins_with_dash, with_steps, with_form, quietly, AreNamed, AsksRuns, csv, latex, quiet, steps, dashes, names}

-- two words that differ in their third byte, or of which one begins otherwise
apart : (w a b : List ℕ) → w ≡ a → w ≡ b → (slice_index a 2 ≡ slice_index b 2 → ⊥) → ⊥
apart w a b is_a is_b differ = differ (ap (λ l. slice_index l 2) (sym is_a ∙ is_b))

-- of what is asked for in other words, the same is asked for
turned : (x : Option Runs) (P Q : Runs → Type 0) → ((r : Runs) → P r → Q r) → ((r : Runs) → Q r → P r) → MatchOption x ((r : Runs) → P r → ⊥) P → MatchOption x ((r : Runs) → Q r → ⊥) Q
turned None P Q to from h = λ r q. h r (from r q)
turned (Some r) P Q to from h = to r h

asks_csv : (o : Options) (w : List ℕ) (ws : List (List ℕ)) → w ≡ codes "--csv" → (r : Runs) → AsksRuns o (w ∷ ws) r → AsksRuns (with_form form.Csv o) ws r
asks_csv o w ws is r (csv e a) = a
asks_csv o w ws is r (latex e a) = absurd (apart w (codes "--csv") (codes "--latex") is e (λ x. omega (arith, x)))
asks_csv o w ws is r (quiet e a) = absurd (apart w (codes "--csv") (codes "--quiet") is e (λ x. omega (arith, x)))
asks_csv o w ws is r (steps e n s a) = absurd (apart w (codes "--csv") (codes "--steps") is e (λ x. omega (arith, x)))
asks_csv o w ws is r (dashes e a) = absurd (apart w (codes "--csv") (codes "--") is e (λ x. omega (arith, x)))
asks_csv o w ws is r (names e a) = absurd (e (ap (λ l. slice_index l 0) is))

asks_latex : (o : Options) (w : List ℕ) (ws : List (List ℕ)) → w ≡ codes "--latex" → (r : Runs) → AsksRuns o (w ∷ ws) r → AsksRuns (with_form form.Latex o) ws r
asks_latex o w ws is r (csv e a) = absurd (apart w (codes "--latex") (codes "--csv") is e (λ x. omega (arith, x)))
asks_latex o w ws is r (latex e a) = a
asks_latex o w ws is r (quiet e a) = absurd (apart w (codes "--latex") (codes "--quiet") is e (λ x. omega (arith, x)))
asks_latex o w ws is r (steps e n s a) = absurd (apart w (codes "--latex") (codes "--steps") is e (λ x. omega (arith, x)))
asks_latex o w ws is r (dashes e a) = absurd (apart w (codes "--latex") (codes "--") is e (λ x. omega (arith, x)))
asks_latex o w ws is r (names e a) = absurd (e (ap (λ l. slice_index l 0) is))

asks_quiet : (o : Options) (w : List ℕ) (ws : List (List ℕ)) → w ≡ codes "--quiet" → (r : Runs) → AsksRuns o (w ∷ ws) r → AsksRuns (quietly o) ws r
asks_quiet o w ws is r (csv e a) = absurd (apart w (codes "--quiet") (codes "--csv") is e (λ x. omega (arith, x)))
asks_quiet o w ws is r (latex e a) = absurd (apart w (codes "--quiet") (codes "--latex") is e (λ x. omega (arith, x)))
asks_quiet o w ws is r (quiet e a) = a
asks_quiet o w ws is r (steps e n s a) = absurd (apart w (codes "--quiet") (codes "--steps") is e (λ x. omega (arith, x)))
asks_quiet o w ws is r (dashes e a) = absurd (apart w (codes "--quiet") (codes "--") is e (λ x. omega (arith, x)))
asks_quiet o w ws is r (names e a) = absurd (e (ap (λ l. slice_index l 0) is))

asks_dashes : (o : Options) (w : List ℕ) (ws : List (List ℕ)) → w ≡ codes "--" → (r : Runs) → AsksRuns o (w ∷ ws) r → AreNamed o ws r
asks_dashes o w ws is r (csv e a) = absurd (apart w (codes "--") (codes "--csv") is e (λ x. omega (arith, x)))
asks_dashes o w ws is r (latex e a) = absurd (apart w (codes "--") (codes "--latex") is e (λ x. omega (arith, x)))
asks_dashes o w ws is r (quiet e a) = absurd (apart w (codes "--") (codes "--quiet") is e (λ x. omega (arith, x)))
asks_dashes o w ws is r (steps e n s a) = absurd (apart w (codes "--") (codes "--steps") is e (λ x. omega (arith, x)))
asks_dashes o w ws is r (dashes e a) = a
asks_dashes o w ws is r (names e a) = absurd (e (ap (λ l. slice_index l 0) is))

-- of two readings of a number, one
asks_steps : (o : Options) (w v : List ℕ) (ws : List (List ℕ)) (k : ℕ) → w ≡ codes "--steps" → NamesSteps k v → (r : Runs) → AsksRuns o (w ∷ v ∷ ws) r → AsksRuns (with_steps k o) ws r
asks_steps o w v ws k is s r (steps e n t a) = subst (λ m. AsksRuns (with_steps m o) ws r) (sym t.1 ∙ s.1) a
asks_steps o w v ws k is s r (csv e a) = absurd (apart w (codes "--steps") (codes "--csv") is e (λ x. omega (arith, x)))
asks_steps o w v ws k is s r (latex e a) = absurd (apart w (codes "--steps") (codes "--latex") is e (λ x. omega (arith, x)))
asks_steps o w v ws k is s r (quiet e a) = absurd (apart w (codes "--steps") (codes "--quiet") is e (λ x. omega (arith, x)))
asks_steps o w v ws k is s r (dashes e a) = absurd (apart w (codes "--steps") (codes "--") is e (λ x. omega (arith, x)))
asks_steps o w v ws k is s r (names e a) = absurd (e (ap (λ l. slice_index l 0) is))

module _ (x : Option Runs) (o : Options) (w : List ℕ) (ws : List (List ℕ)) where
  pub for_csv : w ≡ codes "--csv" → MatchOption x ((r : Runs) → AsksRuns (with_form form.Csv o) ws r → ⊥) (λ r. AsksRuns (with_form form.Csv o) ws r) → MatchOption x ((r : Runs) → AsksRuns o (w ∷ ws) r → ⊥) (λ r. AsksRuns o (w ∷ ws) r)
  for_csv is = turned x (AsksRuns (with_form form.Csv o) ws) (AsksRuns o (w ∷ ws)) (λ r a. csv is a) (asks_csv o w ws is)

  pub for_latex : w ≡ codes "--latex" → MatchOption x ((r : Runs) → AsksRuns (with_form form.Latex o) ws r → ⊥) (λ r. AsksRuns (with_form form.Latex o) ws r) → MatchOption x ((r : Runs) → AsksRuns o (w ∷ ws) r → ⊥) (λ r. AsksRuns o (w ∷ ws) r)
  for_latex is = turned x (AsksRuns (with_form form.Latex o) ws) (AsksRuns o (w ∷ ws)) (λ r a. latex is a) (asks_latex o w ws is)

  pub for_quiet : w ≡ codes "--quiet" → MatchOption x ((r : Runs) → AsksRuns (quietly o) ws r → ⊥) (λ r. AsksRuns (quietly o) ws r) → MatchOption x ((r : Runs) → AsksRuns o (w ∷ ws) r → ⊥) (λ r. AsksRuns o (w ∷ ws) r)
  for_quiet is = turned x (AsksRuns (quietly o) ws) (AsksRuns o (w ∷ ws)) (λ r a. quiet is a) (asks_quiet o w ws is)

  pub for_dashes : w ≡ codes "--" → MatchOption x ((r : Runs) → AreNamed o ws r → ⊥) (λ r. AreNamed o ws r) → MatchOption x ((r : Runs) → AsksRuns o (w ∷ ws) r → ⊥) (λ r. AsksRuns o (w ∷ ws) r)
  for_dashes is = turned x (AreNamed o ws) (AsksRuns o (w ∷ ws)) (λ r a. dashes is a) (asks_dashes o w ws is)

pub for_steps : (x : Option Runs) (o : Options) (w v : List ℕ) (ws : List (List ℕ)) (k : ℕ) → w ≡ codes "--steps" → NamesSteps k v → MatchOption x ((r : Runs) → AsksRuns (with_steps k o) ws r → ⊥) (λ r. AsksRuns (with_steps k o) ws r) → MatchOption x ((r : Runs) → AsksRuns o (w ∷ v ∷ ws) r → ⊥) (λ r. AsksRuns o (w ∷ v ∷ ws) r)
for_steps x o w v ws k is s = turned x (AsksRuns (with_steps k o) ws) (AsksRuns o (w ∷ v ∷ ws)) (λ r a. steps is k s a) (asks_steps o w v ws k is s)

-- words that begin with one that is not an option are names
pub for_name : (o : Options) (w : List ℕ) (ws : List (List ℕ)) (r : Runs) → (begins_with_dash w → ⊥) → r.options ≡ o → texts r.names.now ≡ w ∷ ws → AsksRuns o (w ∷ ws) r
for_name o w ws r other same is = names other (same, is, omega arith)

-- the same of equal words
pub along : (x : Option Runs) (o : Options) (l k : List (List ℕ)) → l ≡ k → MatchOption x ((r : Runs) → AsksRuns o k r → ⊥) (λ r. AsksRuns o k r) → MatchOption x ((r : Runs) → AsksRuns o l r → ⊥) (λ r. AsksRuns o l r)
along x o l k is h = subst (λ m. MatchOption x ((r : Runs) → AsksRuns o m r → ⊥) (λ r. AsksRuns o m r)) (sym is) h

-- the words of a first one and the rest
pub first_and_rest : (ws : List (String Global)) (w : String Global) (rest : List (String Global)) (bs : List ℕ) → ws ≡ w ∷ rest → bs ≡ string_bytes w → texts ws ≡ bs ∷ texts rest
first_and_rest ws w rest bs is says = ap texts is ∙ ap (λ b. b ∷ texts rest) (sym says)

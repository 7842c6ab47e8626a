-- Accesses that are admitted one after the other. Assumes nothing.
use Rattle.std.proofs.Common.{◌≡◌, ℕ, ◌+◌, ◌<◌, ◌≤◌, List, [], ◌∷◌, ◌++◌, length, get_or, drop, Ok, Err, ap, ◌∙◌}
use Rattle.std.proofs.lemmas.List.{at_drop_more, at_drop_all}
use Rattle.memory.specs.declared.records.Record.{Record}
use Rattle.memory.specs.declared.refusals.Refusal.{Refusal}
use Rattle.memory.specs.Admission.{judgement}
use Rattle.logs.specs.declared.reading.Access.{Access}
use Rattle.assembling.specs.Assembly.{refused_behind, admitted_on, admitted}

module _ (p : ℕ) (rs : List Record) (accesses : List Access) (i : ℕ) (d : Access) (some : i < length accesses) where
  next_access : admitted p rs (drop i accesses) ≡ admitted_on (judgement p rs (get_or accesses i d).entry) (length rs) (get_or accesses i d).line (λ r. admitted p (rs ++ r ∷ []) (drop (i + 1) accesses))
  unfolding admitted
  next_access = at_drop_more (admitted p rs) accesses i d some

  pub one_more : (r : Record) → judgement p rs (get_or accesses i d).entry ≡ Ok r → admitted p rs (drop i accesses) ≡ admitted p (rs ++ r ∷ []) (drop (i + 1) accesses)
  one_more r is = next_access ∙ ap (λ j. admitted_on j (length rs) (get_or accesses i d).line (λ r. admitted p (rs ++ r ∷ []) (drop (i + 1) accesses))) is

  pub stops_there : (f : Refusal) → judgement p rs (get_or accesses i d).entry ≡ Err f → admitted p rs (drop i accesses) ≡ Err (refused_behind (length rs) (get_or accesses i d).line f)
  stops_there f is = next_access ∙ ap (λ j. admitted_on j (length rs) (get_or accesses i d).line (λ r. admitted p (rs ++ r ∷ []) (drop (i + 1) accesses))) is

pub at_the_end : (p : ℕ) (rs : List Record) (accesses : List Access) (i : ℕ) → length accesses ≤ i → admitted p rs (drop i accesses) ≡ Ok rs
unfolding admitted
at_the_end p rs accesses i h = at_drop_all (admitted p rs) accesses i h

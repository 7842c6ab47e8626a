-- Steps keep placed records different ones of the run. Assumes nothing.
use Rattle.std.proofs.Common.{◌≡◌, ℕ, ◌≤◌, true, List, [], ◌∷◌, ◌++◌, Some, ap, ◌∙◌, sym}
use Rattle.memory.specs.declared.lines.Line.{Line}
use Rattle.memory.specs.Runs.{Run}
use Rattle.inference.proofs.Follows.{is_known}
use Rattle.search.specs.Placing.{Standing, Takes, distinct}
use Rattle.search.specs.Steps.{Stepped, Step, places, completes, takes_back, exhausts, Walk, Steps, enough, decided, onward}
use Rattle.search.proofs.Distinct.{among_more, distinct_push, distinct_front}

module _ {R : Run} {ls : List Line} (n : ℕ) (few : R.size ≤ n) where
  taken : (s : Standing) (k : ℕ) → Takes R ls s (Some k) → distinct n s.placed ≡ true → distinct n (s.placed ++ k ∷ []) ≡ true
  taken s k t h = distinct_push n s.placed k (among_more R.size n k few (is_known R k t.0.known)) t.0.unplaced h

  step_distinct : {s : Standing} {t : Stepped} → Step R ls s t → distinct n s.placed ≡ true → distinct n t.standing.placed ≡ true
  step_distinct {s} (places k t more) h = taken s k t h
  step_distinct {s} (completes k t all) h = taken s k t h
  step_distinct (takes_back front last none is) h = distinct_front n front (last ∷ []) (sym (ap (distinct n) is) ∙ h)
  step_distinct (exhausts none is) h = h

  pub steps_distinct : {k : ℕ} {s : Standing} {w : Walk} → Steps R ls k s w → distinct n s.placed ≡ true → distinct n w.standing.placed ≡ true
  steps_distinct enough h = h
  steps_distinct (decided v one) h = step_distinct one h
  steps_distinct (onward w one more) h = steps_distinct more (step_distinct one h)

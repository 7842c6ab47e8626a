-- What a search is worth while it is under way, and where its steps lead. Assumes nothing.
use Rattle.std.proofs.Common.{◌≡◌, ℕ, zero, suc, ◌+◌, ◌-◌, ◌*◌, ◌<◌, ◌≤◌, true, ◌&&◌, ltb, List, [], ◌∷◌, ◌++◌, Some, None, Option, refl, ◌∙◌, subst, add-zero, arith}
use Rattle.std.proofs.lemmas.List.{length_push}
use Rattle.std.proofs.lemmas.Bool.{and_left, or_from, le-ltb}
use Rattle.memory.specs.declared.lines.Line.{Line}
use Rattle.memory.specs.declared.records.Record.{Record}
use Rattle.memory.specs.declared.verdicts.Verdict.{Verdict}
use Rattle.memory.specs.Admission.{admits}
use Rattle.memory.specs.Clocks.{LawfulClock}
use Rattle.memory.specs.Legal.{Legal, Claims}
use Rattle.memory.specs.Runs.{Setting, Run, run_of, keeps, at}
use Rattle.memory.proofs.Lawful.{lawful_all}
use Rattle.inference.specs.Worth.{Holds}
use Rattle.search.specs.Placing.{Standing, fresh}
use Rattle.search.specs.Steps.{Stepped, Step, places, completes, takes_back, exhausts, step, Walk, walk_on, walk, F}
use Rattle.search.proofs.Ahead.{Ahead, ahead_first, ahead_placed, ahead_taken_back, ahead_exhausted}
use Rattle.search.proofs.Built.{Irreflexive, Built, lineless, built_push, built_front, built_legal}
use Rattle.search.proofs.Bound.{steps_left, some_left, first_left, falls_placed, falls_taken_back}
use Rattle.search.proofs.Steps.{step_is}

-- a search under way: each placed record was placeable, no legal order has been passed by, and the steps made and left are no more than
-- 2 × F n − 1
pub record Underway (R : Run) (s : Standing) (made : ℕ) : Type 0 where
  pub built : Built R s.placed
  pub ahead : (order : List ℕ) → Legal R order → Ahead s.placed s.mark order
  pub spent : steps_left R.size [] s.placed s.mark + made ≤ 2 * F R.size - 1

-- where steps led to: on, or to a verdict whose claim is true of the placed records
abbrev pub Led : Run → Option Verdict → Standing → ℕ → Type 0
Led R None s made = Underway R s made
Led R (Some v) s made = Claims R s.placed (Some v)

pub first_underway : (R : Run) → 0 < R.size → Underway R fresh 0
first_underway R some = record {
  built = λ i lt. absurd (omega arith);
  ahead = λ order legal. ahead_first order (omega (arith, legal.long));
  spent = omega (arith, first_left R.size);
}

pub underway_bound : (R : Run) (s : Standing) (made : ℕ) → Underway R s made → made < 2 * F R.size
underway_bound R s made u = omega (arith, u.spent, some_left R.size [] s.placed s.mark)

module _ (R : Run) (ls : List Line) (irreflexive : Irreflexive R) (hold : (order : List ℕ) → Legal R order → Holds ls order) where
  led : (s : Standing) (t : Stepped) (made : ℕ) → Step R ls s t → Underway R s made → Led R t.verdict t.standing (made + 1)
  led s t made (places k takes more) u =
      let p = takes.0 in
      record {
        built = built_push R s.placed k u.built (lineless R ls s.placed k p);
        ahead = λ order legal. ahead_placed R ls order legal (hold order legal) s (u.ahead order legal) k takes more;
        spent = omega (arith, u.spent, falls_placed R.size k p.known.some p.known.within [] s.placed s.mark refl p.unplaced takes.1);
      }
  led s t made (completes k takes all) u =
      let built : Built R (s.placed ++ k ∷ []) = built_push R s.placed k u.built (lineless R ls s.placed k takes.0) in
      built_legal R (s.placed ++ k ∷ []) built (λ i lt. irreflexive _ (built i lt).known) (length_push s.placed k ∙ all)
  led s t made (takes_back front last none is) u = record {
    built = built_front R front last (subst (Built R) is u.built);
    ahead = λ order legal. ahead_taken_back R ls order legal (hold order legal) s (u.ahead order legal) none front last is;
    spent = omega (arith, u.spent, falls_taken_back R.size [] front last s.mark, subst (λ p. steps_left R.size [] p s.mark + made ≤ 2 * F R.size - 1) is u.spent);
  }
  led s t made (exhausts none is) u = λ order legal. ahead_exhausted R ls order legal (hold order legal) s (u.ahead order legal) none is

  underway_step : (s : Standing) (made : ℕ) → Underway R s made → let t = step R ls s in Led R t.verdict t.standing (made + 1)
  underway_step s made u = led s (step R ls s) made (step_is R ls s) u

  -- where one step led to t, and the rest goes on from there
  led_on :
      (made : ℕ) (v : Option Verdict) (t : Standing) (rest : Standing → Walk) → Led R v t (made + 1) → (Underway R t (made + 1) → Led R (rest t).verdict (rest t).standing (made + 1 + (rest t).count)) →
      let w = walk_on v t rest in Led R w.verdict w.standing (made + w.count)
  led_on made (Some v) t rest claim on = claim
  led_on made None t rest u on =
      let same : made + 1 + (rest t).count ≡ made + suc (rest t).count = omega arith in
      subst (λ n. Led R (rest t).verdict (rest t).standing n) same (on u)

  pub underway_walk : (k : ℕ) (s : Standing) (made : ℕ) → Underway R s made → let w = walk R ls k s in Led R w.verdict w.standing (made + w.count)
  unfolding walk
  underway_walk zero s made u = rw add-zero u
  underway_walk (suc k) s made u =
      let t : Stepped = step R ls s in
      led_on made t.verdict t.standing (λ z. walk R ls k z) (underway_step s made u) (underway_walk k t.standing (made + 1))

-- the law of clocks keeps records of lawful periods from having to precede themselves
pub irreflexive : (S : Setting) → LawfulClock S.earlier → (p : ℕ) (rs : List Record) → admits p [] rs ≡ true → Irreflexive (run_of S rs)
irreflexive S law p rs adm a known =
    let r : Record = at rs a in
    let timed = (lawful_all p rs adm).timed (a - 1) (omega (arith, known.some, known.within)) in
    or_from (ltb a a && keeps S r r) _ (and_left (ltb a a) (keeps S r r) (le-ltb a a (omega arith))) (law r.processor r.commit r.enter timed.0)

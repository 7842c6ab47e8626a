-- Steps made one by one. Assumes nothing.
use Rattle.std.proofs.Common.{◌≡◌, ℕ, zero, suc, ◌+◌, ◌-◌, ◌<◌, ◌≤◌, Bool, true, false, List, [], ◌∷◌, ◌++◌, length, reverse, cond, eqb, Some, None, Option, is_some, sym, refl, ap, ◌∙◌, arith, length-append}
use mathlib.Core.List.{reverse-cons, reverse-reverse}
use Rattle.std.proofs.lemmas.Bool.{eqb-true, eqb-false, true≢false}
use Rattle.memory.specs.declared.lines.Line.{Line}
use Rattle.memory.specs.declared.verdicts.Verdict.{Verdict}
use Rattle.memory.specs.declared.verdicts.Verdict.TheVariants.{Order, Opposed, Orphan, Exhausted}
use Rattle.memory.specs.Runs.{Run}
use Rattle.search.specs.Placing.{Standing, Takes, takes}
use Rattle.search.specs.Steps.{Stepped, Step, places, completes, takes_back, exhausts, Walk, Steps, enough, decided, onward, retreat, advance, step_by, step, walk_on, walk, Ends}
use Rattle.search.proofs.Placing.{takes_is}

-- a walk behind n steps more
abbrev pub after_more : ℕ → Walk → Walk
after_more n w = record { count = n + w.count; standing = w.standing; verdict = w.verdict }

-- where a walk of up to k steps stands after n of them
abbrev pub Reached : Run → List Line → ℕ → Standing → ℕ → Standing → Type 0
Reached R ls k s n now = (n ≤ k) × (walk R ls k s ≡ after_more n (walk R ls (k - n) now))

module _ (R : Run) (ls : List Line) (k : ℕ) (s : Standing) (n : ℕ) (now : Standing) (h : Reached R ls k s n now) where
  -- all that were asked for are made
  pub all_made : k ≤ n → record { count = k; standing = now; verdict = None } ≡ walk R ls k s
  unfolding walk
  all_made le =
      let none : 0 ≡ k - n = omega arith in
      let long : k ≡ n + 0 = omega (arith, h.0) in
      sym (h.1 ∙ ap (λ j. after_more n (walk R ls j now)) (sym none) ∙ (λ i. record { count = sym long i; standing = now; verdict = None }))

  module _ (lt : n < k) (after : Standing) where
    -- one step more is asked for
    onto : (v : Option Verdict) → record { standing = after; verdict = v } ≡ step R ls now → walk R ls k s ≡ after_more n (walk_on v after (λ t. walk R ls (k - (n + 1)) t))
    unfolding walk
    onto v t =
        let one : k - n ≡ suc (k - (n + 1)) = omega arith in
        h.1 ∙ ap (λ j. after_more n (walk R ls j now)) one ∙ ap (λ x. after_more n (walk_on x.verdict x.standing (λ t. walk R ls (k - (n + 1)) t))) (sym t)

    -- it brings a verdict
    pub ended : (v : Option Verdict) → is_some v ≡ true → record { standing = after; verdict = v } ≡ step R ls now → record { count = n + 1; standing = after; verdict = v } ≡ walk R ls k s
    ended None yes' t = absurd (true≢false (sym yes'))
    ended (Some v) yes' t = sym (onto (Some v) t)

    -- or none, and the search goes on
    pub reached_more : (v : Option Verdict) → is_some v ≡ false → record { standing = after; verdict = v } ≡ step R ls now → Reached R ls k s (n + 1) after
    reached_more (Some v) no' t = absurd (true≢false no')
    reached_more None no' t =
        let rest = walk R ls (k - (n + 1)) after in
        let long : n + suc rest.count ≡ n + 1 + rest.count = omega arith in
        (omega arith, onto None t ∙ (λ i. record { count = long i; standing = rest.standing; verdict = rest.verdict }))

-- what is computed is what the relations say
advanced : (R : Run) (ls : List Line) (s : Standing) (k : ℕ) → Takes R ls s (Some k) → Step R ls s (advance R (s.placed ++ k ∷ []))
advanced R ls s k t = by (eqb (length (s.placed ++ k ∷ [])) R.size) refl
  where
    long : length (s.placed ++ k ∷ []) ≡ length s.placed + 1
    long = length-append s.placed (k ∷ [])

    by : (b : Bool) → eqb (length (s.placed ++ k ∷ [])) R.size ≡ b → Step R ls s (record { standing = record { placed = s.placed ++ k ∷ []; mark = None }; verdict = cond b (Some Order) None })
    by true e = completes k t (omega (arith, long, eqb-true _ _ e))
    by false e = places k t (λ q. eqb-false _ _ e (long ∙ q))

retreated : (R : Run) (ls : List Line) (s : Standing) (back : List ℕ) → reverse s.placed ≡ back → Takes R ls s None → Step R ls s (retreat s back)
retreated R ls s [] is t = exhausts t (sym (reverse-reverse s.placed) ∙ ap reverse is)
retreated R ls s (x ∷ before) is t = takes_back (reverse before) x t (sym (reverse-reverse s.placed) ∙ ap reverse is ∙ reverse-cons x before)

pub step_is : (R : Run) (ls : List Line) (s : Standing) → Step R ls s (step R ls s)
step_is R ls s = by (takes R ls s) (takes_is R ls s)
  where
    by : (o : Option ℕ) → Takes R ls s o → Step R ls s (step_by R s o)
    by None t = retreated R ls s (reverse s.placed) refl t
    by (Some k) t = advanced R ls s k t

pub steps_is : (R : Run) (ls : List Line) (k : ℕ) (s : Standing) → Steps R ls k s (walk R ls k s)
unfolding walk
steps_is R ls zero s = enough
steps_is R ls (suc k) s = by (step R ls s).verdict (step R ls s).standing (step_is R ls s) (λ t. walk R ls k t) (λ t. steps_is R ls k t)
  where
    by : (v : Option Verdict) (t : Standing) → Step R ls s (record { standing = t; verdict = v }) → (rest : Standing → Walk) → ((t : Standing) → Steps R ls k t (rest t)) → Steps R ls (suc k) s (walk_on v t rest)
    by (Some v) t one rest more = decided v one
    by None t one rest more = onward (rest t) one (more t)

-- fewer steps than asked for means decided
pub steps_end : {R : Run} {ls : List Line} {k : ℕ} {s : Standing} {w : Walk} → Steps R ls k s w → Ends k w
steps_end enough none = refl
steps_end (decided v one) none = absurd (cc none)
steps_end (onward w one more) none = ap suc (steps_end more none)

-- no more steps are made than asked for
pub steps_few : {R : Run} {ls : List Line} {k : ℕ} {s : Standing} {w : Walk} → Steps R ls k s w → w.count ≤ k
steps_few enough = omega arith
steps_few (decided v one) = omega arith
steps_few (onward w one more) = omega (arith, steps_few more)

-- what a search can be decided by
abbrev pub BySearch : Option Verdict → Type 0
BySearch None = Unit {0}
BySearch (Some Order) = Unit {0}
BySearch (Some Opposed) = ⊥
BySearch (Some (Orphan l)) = ⊥
BySearch (Some Exhausted) = Unit {0}

step_by_search : {R : Run} {ls : List Line} {s : Standing} {t : Stepped} → Step R ls s t → BySearch t.verdict
step_by_search (places k takes more) = tt
step_by_search (completes k takes all) = tt
step_by_search (takes_back front last none is) = tt
step_by_search (exhausts none is) = tt

pub steps_by_search : {R : Run} {ls : List Line} {k : ℕ} {s : Standing} {w : Walk} → Steps R ls k s w → BySearch w.verdict
steps_by_search enough = tt
steps_by_search (decided v one) = step_by_search one
steps_by_search (onward w one more) = steps_by_search more

-- Lines listed one by one. Assumes nothing.
use Rattle.std.proofs.Common.{◌≡◌, ℕ, zero, suc, ◌+◌, ◌-◌, ◌<◌, ◌≤◌, Bool, true, false, List, [], ◌∷◌, ◌++◌, Some, None, Option, sym, refl, ap, ◌∙◌, subst, arith}
use Rattle.std.proofs.lemmas.Bool.{true≢false}
use Rattle.memory.specs.declared.lines.Line.{Line}
use Rattle.memory.specs.Runs.{Run}
use Rattle.inference.specs.Listing.{Listing, Lists, enough, last, stop, onward, Out, list_by, list_next, list_lines}
use Rattle.inference.specs.Next.{Next, next}
use Rattle.inference.specs.Views.{Took}
use Rattle.inference.specs.Worth.{opposes}
use Rattle.inference.proofs.Least.{next_is}

abbrev done : List Line → Listing
done ls = record { count = 0; lines = ls; opposed = false }

-- what is listed after n lines more
abbrev pub after_more : ℕ → Listing → Listing
after_more n r = record { count = n + r.count; lines = r.lines; opposed = r.opposed }

-- where listing up to k lines stands after n of them
abbrev pub Reached : Run → ℕ → List Line → ℕ → List Line → Type 0
Reached R k ls n now = (n ≤ k) × (list_lines R k ls ≡ after_more n (list_lines R (k - n) now))

module _ (R : Run) (k : ℕ) (ls : List Line) (n : ℕ) (now : List Line) (h : Reached R k ls n now) where
  -- all that were asked for are listed
  pub all_listed : k ≤ n → record { count = k; lines = now; opposed = false } ≡ list_lines R k ls
  unfolding list_lines
  all_listed le =
      let none : 0 ≡ k - n = omega arith in
      let long : k ≡ n + 0 = omega (arith, h.0) in
      sym (h.1 ∙ ap (λ j. after_more n (list_lines R j now)) (sym none) ∙ (λ i. record { count = sym long i; lines = now; opposed = false }))

  module _ (lt : n < k) where
    -- one line more is asked for
    onto : list_lines R k ls ≡ after_more n (list_next (next R now) now (λ more. list_lines R (k - (n + 1)) more))
    unfolding list_lines
    onto = let one : k - n ≡ suc (k - (n + 1)) = omega arith in h.1 ∙ ap (λ j. after_more n (list_lines R j now)) one

    -- none follows
    pub none_follows : (after : List Line) → Took (next R now) now after None → record { count = n; lines = after; opposed = false } ≡ list_lines R k ls
    none_follows after t = go (next R now) refl t
      where
        go : (o : Option Line) → next R now ≡ o → Took o now after None → record { count = n; lines = after; opposed = false } ≡ list_lines R k ls
        go None is t =
            let long : n ≡ n + 0 = omega arith in
            let same = t.1 in
            sym (onto ∙ ap (λ o. after_more n (list_next o now (λ more. list_lines R (k - (n + 1)) more))) is ∙ (λ i. record { count = sym long i; lines = sym same i; opposed = false }))
        go (Some l) is t = absurd (cc t.0)

    -- one was listed
    one_listed : (after : List Line) (b : Bool) → Took (next R now) now after (Some b) → (l : Line) × (list_lines R k ls ≡ after_more n (list_by b now l (λ more. list_lines R (k - (n + 1)) more))) × (after ≡ now ++ l ∷ [])
    one_listed after b t = go (next R now) refl t
      where
        go : (o : Option Line) → next R now ≡ o → Took o now after (Some b) → (l : Line) × (list_lines R k ls ≡ after_more n (list_by b now l (λ more. list_lines R (k - (n + 1)) more))) × (after ≡ now ++ l ∷ [])
        go None is t = absurd (cc t.0)
        go (Some l) is t =
            let test : opposes now l ≡ b = let e = t.0 in cc in
            (l, onto ∙ ap (λ o. after_more n (list_next o now (λ more. list_lines R (k - (n + 1)) more))) is ∙ ap (λ x. after_more n (list_by x now l (λ more. list_lines R (k - (n + 1)) more))) test, t.1)

    -- and it is opposed to one before it
    pub opposed_listed : (after : List Line) (b : Bool) → b ≡ true → Took (next R now) now after (Some b) → record { count = n + 1; lines = after; opposed = true } ≡ list_lines R k ls
    opposed_listed after b yes' t =
        let r = one_listed after true (subst (λ x. Took (next R now) now after (Some x)) yes' t) in
        let same = r.2 in
        (λ i. record { count = n + 1; lines = same i; opposed = true }) ∙ sym r.1

    -- or to none, and listing goes on
    pub reached_more : (after : List Line) (b : Bool) → b ≡ false → Took (next R now) now after (Some b) → Reached R k ls (n + 1) after
    reached_more after b no' t =
        let r = one_listed after false (subst (λ x. Took (next R now) now after (Some x)) no' t) in
        let rest = list_lines R (k - (n + 1)) (now ++ r.0 ∷ []) in
        let long : n + suc rest.count ≡ n + 1 + rest.count = omega arith in
        (omega arith, r.1 ∙ (λ i. record { count = long i; lines = rest.lines; opposed = rest.opposed }) ∙ ap (λ now. after_more (n + 1) (list_lines R (k - (n + 1)) now)) (sym r.2))

-- what is computed is what the relation says
pub lists : (R : Run) (k : ℕ) (ls : List Line) → Lists R k ls (list_lines R k ls)
unfolding list_lines
lists R zero ls = enough
lists R (suc k) ls = go (next R ls) (next_is R ls) (λ more. list_lines R k more) (λ more. lists R k more)
  where
    by : (l : Line) → Next R ls (Some l) → (b : Bool) → opposes ls l ≡ b → (rest : List Line → Listing) → ((more : List Line) → Lists R k more (rest more)) → Lists R (suc k) ls (list_by b ls l rest)
    by l is true test rest more = stop l is test
    by l is false test rest more = onward l (rest (ls ++ l ∷ [])) is test (more (ls ++ l ∷ []))

    go : (o : Option Line) → Next R ls o → (rest : List Line → Listing) → ((more : List Line) → Lists R k more (rest more)) → Lists R (suc k) ls (list_next o ls rest)
    go None is rest more = last is
    go (Some l) is rest more = by l is (opposes ls l) refl rest more

pub lists_out : {R : Run} {k : ℕ} {ls : List Line} {r : Listing} → Lists R k ls r → Out R k r
lists_out enough none few = absurd (omega arith)
lists_out (last is) none few = is
lists_out (stop l is test) none few = absurd (true≢false none)
lists_out (onward l r is test more) none few = lists_out more none (omega arith)

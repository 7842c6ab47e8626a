-- The next line is the least that fits. Assumes nothing.
use Rattle.std.proofs.Common.{◌≡◌, ℕ, zero, suc, ◌<◌, ◌≤◌, Bool, true, false, ◌⊎◌, List, [], ◌∷◌, get_or, Some, None, Option, sym, refl, ap, ◌∙◌, subst, inl, inr, ⊎_elim, arith}
use Rattle.std.proofs.lemmas.Bool.{and_parts, cases_Bool, cases_lt, cases_order}
use Rattle.memory.specs.declared.lines.Line.{Line}
use Rattle.memory.specs.declared.lines.Rule.{Rule}
use Rattle.memory.specs.declared.lines.Rule.TheVariants.{Clock, Model, ReadsFrom, InitialRead, Coherence, FromRead, Transitive}
use Rattle.memory.specs.Numbers.{rule_number, rule_at}
use Rattle.memory.specs.Runs.{Run}
use Rattle.inference.specs.Rules.{names_third, follows}
use Rattle.inference.specs.Next.{fits, NoLarger, Next, or_else, seek, line_of, if_fits, tried, least_of_pair, least_of_first, least_of_rule, next}
use Rattle.inference.proofs.Follows.{Following, following, third_within}
use Rattle.inference.proofs.First.{Sought, sought, none_some}

pub rule_back : (r : Rule) → rule_at (rule_number r) ≡ Some r
rule_back Clock = refl
rule_back Model = refl
rule_back ReadsFrom = refl
rule_back InitialRead = refl
rule_back Coherence = refl
rule_back FromRead = refl
rule_back Transitive = refl

-- the rules in the order of their numbers
abbrev pub all_rules : List Rule
all_rules = Clock ∷ Model ∷ ReadsFrom ∷ InitialRead ∷ Coherence ∷ FromRead ∷ Transitive ∷ []

pub rule_in_order : (k : ℕ) → k < 7 → Some (get_or all_rules k Clock) ≡ rule_at (suc k)
rule_in_order zero lt = refl
rule_in_order (suc zero) lt = refl
rule_in_order (suc (suc zero)) lt = refl
rule_in_order (suc (suc (suc zero))) lt = refl
rule_in_order (suc (suc (suc (suc zero)))) lt = refl
rule_in_order (suc (suc (suc (suc (suc zero))))) lt = refl
rule_in_order (suc (suc (suc (suc (suc (suc zero)))))) lt = refl
rule_in_order (suc (suc (suc (suc (suc (suc (suc k))))))) lt = absurd (omega arith)

number_within : (r : Rule) → (0 < rule_number r) × (rule_number r ≤ 7)
number_within Clock = (omega arith, omega arith)
number_within Model = (omega arith, omega arith)
number_within ReadsFrom = (omega arith, omega arith)
number_within InitialRead = (omega arith, omega arith)
number_within Coherence = (omega arith, omega arith)
number_within FromRead = (omega arith, omega arith)
number_within Transitive = (omega arith, omega arith)

-- each of 1 to 7 is the number of a rule
numbered : (k : ℕ) → 0 < k → k ≤ 7 → (r : Rule) × (rule_number r ≡ k)
numbered zero some few = absurd (omega arith)
numbered (suc zero) some few = (Clock, refl)
numbered (suc (suc zero)) some few = (Model, refl)
numbered (suc (suc (suc zero))) some few = (ReadsFrom, refl)
numbered (suc (suc (suc (suc zero)))) some few = (InitialRead, refl)
numbered (suc (suc (suc (suc (suc zero))))) some few = (Coherence, refl)
numbered (suc (suc (suc (suc (suc (suc zero)))))) some few = (FromRead, refl)
numbered (suc (suc (suc (suc (suc (suc (suc k))))))) some few = (Transitive, omega arith)

none_before : {X : Type 0} (f : ℕ → Option X) (n : ℕ) → seek f n ≡ None → (k : ℕ) → 0 < k → k ≤ n → f k ≡ None
none_before f n e = subst (Sought f n) e (sought f n)

seek_some : {X : Type 0} (f : ℕ → Option X) (n : ℕ) (x : X) → seek f n ≡ Some x → (k : ℕ) × (0 < k) × (k ≤ n) × (f k ≡ Some x) × ((j : ℕ) → 0 < j → j < k → f j ≡ None)
seek_some f n x e = subst (Sought f n) e (sought f n)

-- the same from 0 on, as the third of a line is looked for
module _ {X : Type 0} (f : ℕ → Option X) (n : ℕ) where
  both_none : or_else (f 0) (seek f n) ≡ None → (k : ℕ) → k ≤ n → f k ≡ None
  both_none e = go (f 0) refl e
    where
      go : (o : Option X) → f 0 ≡ o → or_else o (seek f n) ≡ None → (k : ℕ) → k ≤ n → f k ≡ None
      go None at-0 e zero le = at-0
      go None at-0 e (suc k) le = none_before f n e (suc k) (omega arith) le
      go (Some x) at-0 e k le = absurd (none_some (Some x) x e refl)

  either_some : (x : X) → or_else (f 0) (seek f n) ≡ Some x → (k : ℕ) × (f k ≡ Some x) × ((j : ℕ) → j < k → f j ≡ None)
  either_some x e = go (f 0) refl e
    where
      go : (o : Option X) → f 0 ≡ o → or_else o (seek f n) ≡ Some x → (k : ℕ) × (f k ≡ Some x) × ((j : ℕ) → j < k → f j ≡ None)
      go (Some y) at-0 e = (0, at-0 ∙ e, λ j lt. absurd (omega arith))
      go None at-0 e = let s = seek_some f n x e in (s.0, s.3, below s.0 s.4)
        where
          below : (k : ℕ) → ((j : ℕ) → 0 < j → j < k → f j ≡ None) → (j : ℕ) → j < k → f j ≡ None
          below k first zero lt = at-0
          below k first (suc j) lt = first (suc j) (omega arith) lt

module _ (R : Run) (ls : List Line) where
  abbrev at_number : ℕ → Option Line
  at_number k = least_of_rule R ls (rule_at k)

  -- a line that fits is passed over nowhere
  module _ (m : Line) (fit : fits R ls m ≡ true) where
    parts : Following R ls m
    parts = following R ls m (and_parts (follows R ls m) _ fit).0

    at_third : tried R ls m.rule m.first m.second m.third ≡ None → ⊥
    at_third e = none_some _ m e (ap (λ b. if_fits b m) fit)

    at_pair : least_of_pair R ls m.rule m.first m.second ≡ None → ⊥
    at_pair e = at_third (both_none (tried R ls m.rule m.first m.second) R.size e m.third (third_within R (names_third m.rule) m.third parts.third))

    at_first : least_of_first R ls m.rule m.first ≡ None → ⊥
    at_first e = at_pair (none_before (least_of_pair R ls m.rule m.first) R.size e m.second parts.second.some parts.second.within)

    at_rule : at_number (rule_number m.rule) ≡ None → ⊥
    at_rule e =
        at_first (none_before (least_of_first R ls m.rule) R.size (ap (least_of_rule R ls) (sym (rule_back m.rule)) ∙ e) m.first parts.first.some parts.first.within)

  found_none : next R ls ≡ None → (m : Line) → fits R ls m ≡ false
  unfolding next
  found_none e m =
      let n = number_within m.rule in
      ⊎_elim (λ fit. absurd (at_rule m fit (none_before at_number 7 e (rule_number m.rule) n.0 n.1))) (λ no'. no') (cases_Bool (fits R ls m))

  -- a line that was tried and is there fits
  tried_fits : (l k : Line) → if_fits (fits R ls k) k ≡ Some l → (fits R ls k ≡ true) × (k ≡ l)
  tried_fits l k e = go (fits R ls k) refl e
    where
      go : (b : Bool) → fits R ls k ≡ b → if_fits b k ≡ Some l → (fits R ls k ≡ true) × (k ≡ l)
      go true is e = (is, cc)
      go false is e = absurd (none_some None l refl e)

  -- the line of rule r with the first a, the second b and the third c, where nothing smaller was found
  module _ (r : Rule) (a b c : ℕ) (rules : (j : ℕ) → 0 < j → j < rule_number r → at_number j ≡ None) (firsts : (j : ℕ) → 0 < j → j < a → least_of_first R ls r j ≡ None) (seconds : (j : ℕ) → 0 < j → j < b → least_of_pair R ls r a j ≡ None) (thirds : (j : ℕ) → j < c → tried R ls r a b j ≡ None) where
    least : (m : Line) → fits R ls m ≡ true → NoLarger (line_of r a b c) m
    least m fit = go (cases_order (rule_number r) (rule_number m.rule))
      where
        p : Following R ls m
        p = parts m fit

        go : (rule_number r ≡ rule_number m.rule) ⊎ ((rule_number r < rule_number m.rule) ⊎ (rule_number m.rule < rule_number r)) → NoLarger (line_of r a b c) m
        go (inr (inl less)) = inl less
        go (inr (inr more)) = absurd (at_rule m fit (rules (rule_number m.rule) (number_within m.rule).0 more))
        go (inl same) = inr (same, by_first (cases_order a m.first))
          where
            same_rule : r ≡ m.rule
            same_rule = let e = rule_back r in let f = rule_back m.rule in cc

            by_third : a ≡ m.first → b ≡ m.second → c ≤ m.third
            by_third ea eb = ⊎_elim (λ lt. absurd (at_third m fit (cc (same_rule, ea, eb, thirds m.third lt)))) (λ ge. ge) (cases_lt m.third c)

            by_second : a ≡ m.first → (b ≡ m.second) ⊎ ((b < m.second) ⊎ (m.second < b)) → (b < m.second) ⊎ ((b ≡ m.second) × (c ≤ m.third))
            by_second ea (inl eb) = inr (eb, by_third ea eb)
            by_second ea (inr (inl less)) = inl less
            by_second ea (inr (inr more)) = absurd (at_pair m fit (cc (same_rule, ea, seconds m.second p.second.some more)))

            by_first : (a ≡ m.first) ⊎ ((a < m.first) ⊎ (m.first < a)) → (a < m.first) ⊎ ((a ≡ m.first) × ((b < m.second) ⊎ ((b ≡ m.second) × (c ≤ m.third))))
            by_first (inl ea) = inr (ea, by_second ea (cases_order b m.second))
            by_first (inr (inl less)) = inl less
            by_first (inr (inr more)) = absurd (at_first m fit (cc (same_rule, firsts m.first p.first.some more)))

    found : (l : Line) → tried R ls r a b c ≡ Some l → Next R ls (Some l)
    found l e = let t = tried_fits l (line_of r a b c) e in subst (λ m. Next R ls (Some m)) t.1 (t.0, least)

  found_some : (l : Line) → next R ls ≡ Some l → Next R ls (Some l)
  unfolding next
  found_some l e =
      let k = seek_some at_number 7 l e in
      let q = numbered k.0 k.1 k.2 in
      let r : Rule = q.0 in
      let here : least_of_rule R ls (Some r) ≡ Some l = ap (least_of_rule R ls) (sym (rule_back r) ∙ ap rule_at q.1) ∙ k.3 in
      let a = seek_some (least_of_first R ls r) R.size l here in
      let b = seek_some (least_of_pair R ls r a.0) R.size l a.3 in
      let c = either_some (tried R ls r a.0 b.0) R.size l b.3 in
      found r a.0 b.0 c.0 (λ j some lt. k.4 j some (omega (arith, q.1))) a.4 b.4 c.2 l c.1

pub next_is : (R : Run) (ls : List Line) → Next R ls (next R ls)
next_is R ls = go (next R ls) refl
  where
    go : (o : Option Line) → next R ls ≡ o → Next R ls o
    go None e = found_none R ls e
    go (Some l) e = found_some R ls l e

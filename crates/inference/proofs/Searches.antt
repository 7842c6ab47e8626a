-- What searches along 1..=n find, as `find_map`, `any` and `find` say it. Assumes nothing.
use Rattle.std.proofs.Common.{◌≡◌, ℕ, zero, suc, ◌+◌, ◌<◌, ◌≤◌, Bool, true, false, List, length, get_or, Some, None, Option, Bor, ltb, leb, refl, sym, ap, ◌∙◌, subst, ⊎_elim, arith}
use Rattle.std.proofs.lemmas.Bool.{cases_Bool, both_ways, and_from, lt-ltb, le-leb}
use Rattle.std.proofs.iter.runs.Sources.{nat_range_inclusive_steps, inclusive_listed}
use Rattle.std.specs.declared.ops.RangeInclusive.{RangeInclusive}
use Rattle.std.specs.Range.{range_inclusive_start, range_inclusive_end, range_inclusive_exhausted}
use Rattle.std.specs.Fn.{Called, CalledAt, Mut}
use Rattle.std.specs.Iterator.{ActsAs}
use Rattle.std.specs.Iterator.Runs.{Run, SomeRun, CallKeepsClosure, AllItemsGive, AnyItemGives, IsFirstToGive, NoItemPasses, EndsAtFirstPassing, EveryRun, ItemsMapTo}
use Rattle.std.specs.Option.{MatchOption, IfSome, IsSomeAnd, option_map}
use Rattle.std.specs.Bool.{IsTrue, MatchBool}
use Rattle.memory.specs.Reading.{Least}
use Rattle.inference.specs.Next.{seek}
use Rattle.inference.specs.Rules.{among, some}
use Rattle.inference.proofs.First.{Sought, sought_once, some_at, some_from}

-- the item at a place below the length
there : {A : Type 0} {P Q : A → Type 0} (o : Option A) → IsSomeAnd o P → IfSome o Q → (x : A) × P x × Q x
there None p q = absurd p
there (Some x) p q = (x, p, q)

both : {A : Type 0} {P Q : A → Type 0} (o : Option A) → IsSomeAnd o P → IsSomeAnd o Q → (x : A) × P x × Q x
both None p q = absurd p
both (Some x) p q = (x, p, q)

module _ {S A F R : Type 0} {steps : S → Option A → S → Type 0} (g : Mut F (A × Unit {0}) R) (f : F) (h : ℕ → R) (n : ℕ) where
  -- a run of n items or fewer, where f answers h 1 at the first, h 2 at the second, and so on
  pub record Numbers (p : Run steps) : Type 0 where
    pub few : p.len ≤ n
    pub all : p.whole ≡ true → p.len ≡ n
    pub keeps : CallKeepsClosure g f
    pub gives : (k : ℕ) → k < p.len → IsSomeAnd (p.at k) (λ x. (r : R) (q : F) → Called g f (x, tt) r q → r ≡ h (suc k))

-- what `find_map`, `any` and `find` answer, by their clauses `runs`
abbrev pub Finds : {S A F X : Type 0} {steps : S → Option A → S → Type 0} → Mut F (A × Unit {0}) (Option X) → F → Option X → Run steps → Type 0
Finds g f r p = MatchOption r (IsTrue p.whole × AllItemsGive p g f None) (λ y. (i : ℕ) × (i < p.len) × (p.len ≡ i + 1) × IsFirstToGive p g f (Some y) None i)

abbrev pub Passes : {S A F : Type 0} {steps : S → Option A → S → Type 0} → Mut F (A × Unit {0}) Bool → F → Bool → Run steps → Type 0
Passes g f r p = MatchBool r (AnyItemGives p g f true) (IsTrue p.whole × AllItemsGive p g f false)

abbrev pub FindsPassing : {S A F : Type 0} {steps : S → Option A → S → Type 0} → Mut F (Bor A × Unit {0}) Bool → F → Option A → Run steps → Type 0
FindsPassing g f r p = MatchOption r (IsTrue p.whole × NoItemPasses p g f) (EndsAtFirstPassing p g f)

module _ {S A F X : Type 0} {steps : S → Option A → S → Type 0} (g : Mut F (A × Unit {0}) (Option X)) (f : F) (h : ℕ → Option X) (n : ℕ) (p : Run steps) (num : Numbers g f h n p) where
  find_map_seeks : (r : Option X) → Finds g f r p → r ≡ seek h n
  find_map_seeks r found = sought_once h n r (go r found)
    where
      go : (r : Option X) → Finds g f r p → Sought h n r
      go None (whole, none) = none_at
        where
          none_at : (k : ℕ) → 0 < k → k ≤ n → h k ≡ None
          none_at zero some le = absurd (omega arith)
          none_at (suc k) some le = let t = there (p.at k) (num.gives k (omega (arith, num.all whole))) (none num.keeps k) in sym (t.1 None f t.2)
      go (Some y) (i, lt, long, first) = (suc i, omega arith, omega (arith, num.few), sym (hit.1 (Some y) f hit.2), before)
        where
          hit : (x : A) × ((r : Option X) (q : F) → Called g f (x, tt) r q → r ≡ h (suc i)) × Called g f (x, tt) (Some y) f
          hit = both (p.at i) (num.gives i lt) (first num.keeps).0

          before : (j : ℕ) → 0 < j → j < suc i → h j ≡ None
          before zero some le = absurd (omega arith)
          before (suc j) some le = let t = both (p.at j) (num.gives j (omega arith)) ((first num.keeps).1 j (omega arith)) in sym (t.1 None f t.2)

module _ {S A F : Type 0} {steps : S → Option A → S → Type 0} (g : Mut F (A × Unit {0}) Bool) (f : F) (h : ℕ → Bool) (n : ℕ) (p : Run steps) (num : Numbers g f h n p) where
  any_some : (r : Bool) → Passes g f r p → r ≡ some h n
  any_some true any' = let k = any' num.keeps in let t = both (p.at k.0) (num.gives k.0 k.1) k.2 in sym (some_from h n (suc k.0) (omega arith) (omega (arith, k.1, num.few)) (sym (t.1 true f t.2)))
  any_some false (whole, none) = ⊎_elim (λ e. let s = some_at h n e in absurd (both_ways _ (none_at s.0 s.1 s.2) s.3)) (λ e. sym e) (cases_Bool (some h n))
    where
      none_at : (k : ℕ) → 0 < k → k ≤ n → h k ≡ false
      none_at zero some le = absurd (omega arith)
      none_at (suc k) some le = let t = there (p.at k) (num.gives k (omega (arith, num.all whole))) (none num.keeps k) in sym (t.1 false f t.2)

-- s is 1..=n
abbrev pub Counts : ℕ → RangeInclusive ℕ → Type 0
Counts n s = (range_inclusive_start s ≡ 1) × (range_inclusive_end s ≡ n) × (range_inclusive_exhausted s ≡ false)

-- a run along 1..=n gives 1, 2 and so on
record Upto (n : ℕ) (p : Run nat_range_inclusive_steps) : Type 0 where
  pub few : p.len ≤ n
  pub all : p.whole ≡ true → p.len ≡ n
  pub item : (k : ℕ) → k < p.len → p.at k ≡ Some (suc k)

upto : (n : ℕ) (s : RangeInclusive ℕ) → Counts n s → (p : Run nat_range_inclusive_steps) → p.from ≡ s → Upto n p
upto n s is p from =
    let l = inclusive_listed p p.seen in
    let u = l.4 (ap range_inclusive_exhausted from ∙ is.2) in
    let a : l.0 ≡ 1 = l.2 ∙ ap range_inclusive_start from ∙ is.0 in
    let b : l.1 ≡ n + 1 = l.3 ∙ ap (λ z. range_inclusive_end z + 1) from ∙ ap (λ z. z + 1) is.1 in
    record {
      few = omega (arith, u.0.0);
      all = λ w. omega (arith, u.0.1 w);
      item = λ k lt. at (p.at k) (u.0.3 k lt) ∙ ap Some (omega arith);
    }
  where
    at : {x : ℕ} (o : Option ℕ) → option_map (λ y. y) o ≡ Some x → o ≡ Some x
    at None e = cc e
    at (Some y) e = e

module _ {F R : Type 0} (g : Mut F (ℕ × Unit {0}) R) (f : F) (h : ℕ → R) (n : ℕ) (s : RangeInclusive ℕ) (is : Counts n s) (acts : ActsAs g f h) where
  counted : (p : Run nat_range_inclusive_steps) → p.from ≡ s → Numbers g f h n p
  counted p from =
      let u = upto n s is p from in
      record {
        few = u.few;
        all = u.all;
        keeps = λ x r q c. (acts x.0 r q c).0;
        gives = λ k lt. subst (λ o. IsSomeAnd o (λ x. (r : R) (q : F) → Called g f (x, tt) r q → r ≡ h (suc k))) (sym (u.item k lt)) (λ r q c. (acts (suc k) r q c).1);
      }

-- `find_map` and `any` along 1..=n, where the closure computes h
module _ {F : Type 0} {f : F} {s : RangeInclusive ℕ} (n : ℕ) where
  pub find_map_upto : {X : Type 0} {g : Mut F (ℕ × Unit {0}) (Option X)} (h : ℕ → Option X) (r : Option X) → SomeRun nat_range_inclusive_steps s (Finds g f r) → Counts n s → ActsAs g f h → r ≡ seek h n
  find_map_upto {g = g} h r (p, from, found) is acts = find_map_seeks g f h n p (counted g f h n s is acts p from) r found

  pub any_upto : {g : Mut F (ℕ × Unit {0}) Bool} (h : ℕ → Bool) (r : Bool) → SomeRun nat_range_inclusive_steps s (Passes g f r) → Counts n s → ActsAs g f h → r ≡ some h n
  any_upto {g = g} h r (p, from, found) is acts = any_some g f h n p (counted g f h n s is acts p from) r found

-- `find` along 1..=n, where the closure computes h of these numbers
module _ {F : Type 0} {g : Mut F (Bor ℕ × Unit {0}) Bool} {f : F} {s : RangeInclusive ℕ} (n : ℕ) (h : ℕ → Bool) where
  pub find_upto : (r : Option ℕ) → SomeRun nat_range_inclusive_steps s (FindsPassing g f r) → Counts n s → ((x : ℕ) (r : Bool) (q : F) → CalledAt g f x r q → (q ≡ f) × (among n x ≡ true → r ≡ h x)) → Least h n r
  find_upto r (p, from, found) is acts = go r found
    where
      u : Upto n p
      u = upto n s is p from

      keeps : CallKeepsClosure g f
      keeps x r q c = (acts x.0.now r q (record { shown = x.0; shows = refl; called = c })).0

      gave : {b : Bool} (k : ℕ) → 0 < k → k ≤ n → CalledAt g f k b f → h k ≡ b
      gave k more le c = sym ((acts k _ f c).1 (and_from (ltb 0 k) (leb k n) (lt-ltb 0 k more) (le-leb k n le)))

      go : (r : Option ℕ) → FindsPassing g f r p → Least h n r
      go None (whole, none) = none_at
        where
          none_at : (k : ℕ) → 0 < k → k ≤ n → h k ≡ false
          none_at zero more le = absurd (omega arith)
          none_at (suc k) more le = gave (suc k) more le (subst (λ o. IfSome o (λ x. CalledAt g f x false f)) (u.item k (omega (arith, u.all whole))) (none keeps k))
      go (Some y) (i, long, last, first) = (more, within, gave y more within (first keeps).0, before)
        where
          y_is : y ≡ suc i
          y_is = cc (last, u.item i (omega arith))

          more : 0 < y
          more = omega (arith, y_is)

          within : y ≤ n
          within = omega (arith, y_is, u.few)

          before : (k : ℕ) → 0 < k → k < y → h k ≡ false
          before zero more lt = absurd (omega arith)
          before (suc k) more lt = let below : k < i = omega (arith, y_is) in gave (suc k) more (omega (arith, within)) (subst (λ o. IsSomeAnd o (λ x. CalledAt g f x false f)) (u.item k (omega arith)) ((first keeps).1 k below))

-- `find_map` along the list xs, where the closure answers h 1 at its first, h 2 at its second, and so on
module _ {S A B F X : Type 0} {steps : S → Option A → S → Type 0} {g : Mut F (A × Unit {0}) (Option X)} {f : F} {s : S} (v : A → B) (rest : S → List B) (every : EveryRun steps (λ p. ItemsMapTo p v (rest p.from))) (xs : List B) (left : rest s ≡ xs) where
  pub find_map_listed : (t : B → Option X) (h : ℕ → Option X) (d : B) → ((k : ℕ) → k < length xs → t (get_or xs k d) ≡ h (suc k)) → (r : Option X) → SomeRun steps s (Finds g f r) → ActsAs g f (λ x. t (v x)) → r ≡ seek h (length xs)
  find_map_listed t h d is r (p, from, found) acts =
      let items = subst (ItemsMapTo p v) (ap rest from ∙ left) (every p p.seen) in
      find_map_seeks g f h (length xs) p (record {
        few = items.0;
        all = items.1;
        keeps = λ x r q c. (acts x.0 r q c).0;
        gives = λ k lt. at (p.at k) k (get_or xs k d) (items.2 k d lt) (is k (omega (arith, items.0)));
      }) r found
    where
      at : (o : Option A) (k : ℕ) (y : B) → option_map v o ≡ Some y → t y ≡ h (suc k) → IsSomeAnd o (λ x. (r : Option X) (q : F) → Called g f (x, tt) r q → r ≡ h (suc k))
      at None k y e is = absurd (cc e)
      at (Some x) k y e is = λ r q c. let same : v x ≡ y = cc in (acts x r q c).1 ∙ ap t same ∙ is

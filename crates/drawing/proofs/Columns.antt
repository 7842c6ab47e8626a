-- Counting what is smaller, in a list.
use Rattle.std.proofs.Common.{◌≡◌, ℕ, zero, suc, ◌+◌, ◌<◌, ◌≤◌, List, [], ◌∷◌, length, get_or, Contains, nat_lt, sym, ◌∙◌, arith, refl, inl, inr}
use Rattle.std.specs.List.{count_by}
use Rattle.std.specs.List.Sorted.{IsStrictlyIncreasing}
use Rattle.std.specs.List.{AllPairs}
use Rattle.memory.specs.declared.records.Record.{Record}
use Rattle.drawing.specs.declared.axis.Axis.{Axis}
use Rattle.drawing.specs.Axis.{IsReading, KeepsTime, EachColumn}
use Rattle.std.proofs.lemmas.Bool.{cases_lt}
use Rattle.std.proofs.lemmas.List.{get_or_default}
use Rattle.std.proofs.lemmas.Grind.{common_steps, get_or_default_zero}
use Rattle.std.proofs.lemmas.List.Kept.{AllPairs-from_increasing}
use Rattle.std.proofs.lemmas.List.Sums.{count_by-le-length}

-- as many are smaller than t
abbrev pub smaller : ℕ → List ℕ → ℕ
smaller t xs = count_by (λ s. nat_lt s t) xs

pub smaller_more : (xs : List ℕ) (s t : ℕ) → s ≤ t → smaller s xs ≤ smaller t xs
smaller_more [] s t le = omega arith
smaller_more (x ∷ xs) s t le = grind (arith, common_steps, smaller_more xs s t le)

smaller_strict : (xs : List ℕ) (k s t : ℕ) → k < length xs → get_or xs k 0 ≡ s → s < t → smaller s xs < smaller t xs
smaller_strict [] k s t in_it is lt = absurd (omega (arith, in_it))
smaller_strict (x ∷ xs) zero s t in_it is lt = grind (arith, common_steps, smaller_more xs s t (omega arith), is, lt)
smaller_strict (x ∷ xs) (suc k) s t in_it is lt = grind (arith, common_steps, smaller_strict xs k s t (omega (arith, in_it)) is lt, lt)

pub smaller_least : (xs : List ℕ) (y : ℕ) → ((k : ℕ) → k < length xs → y < get_or xs k 0) → smaller y xs ≡ 0
smaller_least [] y above = refl
smaller_least (x ∷ xs) y above = grind (arith, common_steps, above 0 (omega arith), smaller_least xs y (λ k h. above (suc k) (omega (arith, h))))

rising_tail : (x : ℕ) (xs : List ℕ) → AllPairs (λ a b. a < b) (x ∷ xs) → AllPairs (λ a b. a < b) xs
rising_tail x xs rise = λ i j d lt in_it. rise (suc i) (suc j) d (omega (arith, lt)) (omega (arith, in_it))

-- in a rising list, the number at k has k smaller ones
smaller_at : (xs : List ℕ) (k : ℕ) → AllPairs (λ a b. a < b) xs → k < length xs → smaller (get_or xs k 0) xs ≡ k
smaller_at [] k rise in_it = absurd (omega (arith, in_it))
smaller_at (x ∷ xs) zero rise in_it = grind (arith, common_steps, smaller_least xs x (λ k h. rise 0 (suc k) 0 (omega arith) (omega (arith, h))))
smaller_at (x ∷ xs) (suc k) rise in_it =
    let below : x < get_or xs k 0 = rise 0 (suc k) 0 (omega arith) in_it in
    grind (arith, common_steps, smaller_at xs k (rising_tail x xs rise) (omega (arith, in_it)), below)

pub smaller_of_rising : (xs : List ℕ) (k : ℕ) → IsStrictlyIncreasing xs → k < length xs → smaller (get_or xs k 0) xs ≡ k
smaller_of_rising xs k rise in_it = smaller_at xs k (AllPairs-from_increasing xs rise) in_it

-- a number that the list has is counted below each greater one
pub smaller_rises : (xs : List ℕ) (s t : ℕ) → Contains xs s → s < t → smaller s xs < smaller t xs
smaller_rises xs s t (k, in_it, is) lt = smaller_strict xs k s t in_it (sym (get_or_default_zero xs k s in_it) ∙ is) lt

-- and not below itself
pub smaller_within : (xs : List ℕ) (t : ℕ) → Contains xs t → smaller t xs < length xs
smaller_within xs t has = omega (arith, smaller_rises xs t (t + 1) has (omega arith), count_by-le-length (λ s. nat_lt s (t + 1)) xs)

pub smaller_reflects : (xs : List ℕ) (s t : ℕ) → smaller s xs < smaller t xs → s < t
smaller_reflects xs s t lt = elim (cases_lt s t) [ inl h ↦ h | inr h ↦ absurd (omega (arith, lt, smaller_more xs t s h)) ]

-- of an axis that has each reading of the run
pub keeps_time : (rs : List Record) (a : Axis) → ((x : ℕ) → IsReading rs x → Contains a.readings.items x) → KeepsTime rs a
keeps_time rs a has = λ s t is_s is_t. (smaller_rises a.readings.items s t (has s is_s), smaller_reflects a.readings.items s t, smaller_within a.readings.items t (has t is_t))

-- of one that has no others, rising
pub each_column : (rs : List Record) (a : Axis) → ((x : ℕ) → Contains a.readings.items x → IsReading rs x) → IsStrictlyIncreasing a.readings.items → EachColumn rs a
each_column rs a only rise = λ k in_it. (only (get_or a.readings.items k 0) (k, in_it, get_or_default a.readings.items k (get_or a.readings.items k 0) 0 in_it), smaller_of_rising a.readings.items k rise in_it)

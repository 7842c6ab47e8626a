-- Every step leaves fewer to make, and 2 × F n - 1 are the most. Assumes nothing.
use Rattle.std.proofs.Common.{◌≡◌, ℕ, zero, suc, ◌+◌, ◌-◌, ◌*◌, ◌<◌, ◌≤◌, Bool, true, false, not, ◌&&◌, eqb, ltb, List, [], ◌∷◌, ◌++◌, Some, None, Option, refl, ap, arith, zero-le, mul-le-mul, mul-le-mul_right, add-mul, mul_left_comm}
use Rattle.std.proofs.lemmas.Bool.{and_parts, and_from, and_left, or_parts, or_from, ltb-true, lt-ltb, le-ltb, not_from_false}
use Rattle.memory.specs.Runs.{has}
use Rattle.memory.proofs.Present.{count, count_less, left_all, left_less}
use Rattle.search.specs.Placing.{Above, above}
use Rattle.search.specs.Steps.{F}

-- k is above the mark and not among those before, and how many of 1 to n are so
abbrev free : List ℕ → Option ℕ → ℕ → Bool
free before mark k = above mark k && not (has before k)

abbrev room : ℕ → List ℕ → Option ℕ → ℕ
room n before mark = count (free before mark) n

-- twice F of one fewer
abbrev weight : ℕ → ℕ
weight zero = 0
weight (suc k) = 2 + k * weight k

weight_le : (j k : ℕ) → j ≤ k → weight j ≤ weight k
weight_le zero k le = zero-le
weight_le (suc j) zero le = absurd (omega arith)
weight_le (suc j) (suc k) le = omega (arith, mul-le-mul {n₁ = j} {m₁ = weight j} {n₂ = k} {m₂ = weight k} (omega arith) (weight_le j k (omega arith)))

weight_F : (n : ℕ) → weight (suc n) ≡ 2 * F n
weight_F zero = refl
weight_F (suc n) = omega (arith, weight_F n, ap (λ x. suc n * x) (weight_F n), mul_left_comm (suc n) 2 (F n))

-- behind the records before: each one above the mark costs so many steps, and one more takes back the last of those before
abbrev here : ℕ → List ℕ → Option ℕ → ℕ
here n before mark = room n before mark * weight (room n before None) + 1

-- the most steps that are left with these placed behind the records before, the last of which is first
abbrev pub steps_left : ℕ → List ℕ → List ℕ → Option ℕ → ℕ
steps_left n before [] mark = here n before mark
steps_left n before (x ∷ placed) mark = here n before (Some x) + steps_left n (x ∷ before) placed mark

pub some_left : (n : ℕ) (before placed : List ℕ) (mark : Option ℕ) → 0 < steps_left n before placed mark
some_left n before [] mark = omega arith
some_left n before (x ∷ placed) mark = omega arith

above_on : (mark : Option ℕ) (k j : ℕ) → Above mark k → k ≤ j → above mark j ≡ true
above_on None k j h le = refl
above_on (Some m) k j h le = lt-ltb m j (omega arith)

-- record k, which may be placed
module _ (n k : ℕ) (some : 0 < k) (within : k ≤ n) where
  -- there is less room above it
  room_above : (before : List ℕ) (mark : Option ℕ) → has before k ≡ false → Above mark k → room n before (Some k) + 1 ≤ room n before mark
  room_above before mark new over =
      count_less (free before mark) (free before (Some k)) k n
      (λ j f. let p = and_parts (ltb k j) (not (has before j)) f in and_from (above mark j) _ (above_on mark k j over (omega (arith, ltb-true k j p.0))) p.1)
      some within
      (and_from (above mark k) _ (above_on mark k k over (omega arith)) (not_from_false _ new))
      (and_left (ltb k k) _ (le-ltb k k (omega arith)))

  -- and less behind it
  room_behind : (before : List ℕ) → has before k ≡ false → room n (k ∷ before) None + 1 ≤ room n before None
  room_behind before new = left_less n before k some within new

  pub falls_placed :
      (before placed : List ℕ) (mark : Option ℕ) → has before k ≡ false → has placed k ≡ false → Above mark k →
      steps_left n before (placed ++ k ∷ []) None + 1 ≤ steps_left n before placed mark
  falls_placed before [] mark new apart over =
      let w : ℕ = weight (room n before None) in
      omega (
        arith,
        weight_le (suc (room n (k ∷ before) None)) (room n before None) (omega (arith, room_behind before new)),
        mul-le-mul_right w (room_above before mark new over),
        add-mul (room n before (Some k)) 1 w,
      )
  falls_placed before (x ∷ placed) mark new apart over =
      let p = or_parts (eqb x k) (has placed k) apart in
      omega (arith, falls_placed (x ∷ before) placed mark (or_from (eqb x k) (has before k) p.0 new) p.1 over)

pub falls_taken_back : (n : ℕ) (before front : List ℕ) (last : ℕ) (mark : Option ℕ) → steps_left n before front (Some last) + 1 ≤ steps_left n before (front ++ last ∷ []) mark
falls_taken_back n before [] last mark = omega arith
falls_taken_back n before (x ∷ front) last mark = omega (arith, falls_taken_back n (x ∷ before) front last mark)

room_all : (n : ℕ) → room n [] None ≡ n
room_all n = left_all n

pub first_left : (n : ℕ) → steps_left n [] [] None ≡ 2 * F n - 1
first_left n = omega (arith, ap (λ k. k * weight k) (room_all n), weight_F n)

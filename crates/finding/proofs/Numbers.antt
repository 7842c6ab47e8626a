-- The numbers of marked lines. Assumes nothing.
use Rattle.std.proofs.Common.{◌≡◌, ℕ, suc, zero, ◌+◌, ◌-◌, ◌<◌, ◌≤◌, Bool, true, false, cond, List, [], ◌∷◌, ◌++◌, length, get_or, drop, take, filter, All, Contains, sym, ap, ◌∙◌, subst, append-nil, arith}
use Rattle.std.specs.List.Sorted.{IsStrictlyIncreasing}
use Rattle.std.proofs.Math.Seq.{take-length}
use Rattle.std.proofs.Math.ListN.{drop_of_length-le}
use Rattle.std.proofs.lemmas.List.{get_or_default}
use Rattle.std.proofs.lemmas.List.FromFn.{filter_of_map_range_with_len_more, get_or-map-range_with_len, length-map-range_with_len}
use Rattle.std.proofs.lemmas.List.Elements.{All-filter, filter_passes}
use Rattle.std.proofs.lemmas.List.Kept.{IsStrictlyIncreasing-filter}
use Rattle.memory.specs.declared.lines.Line.{Line}
use Rattle.memory.specs.declared.records.Record.{Record}
use Rattle.finding.specs.Marks.{numbers_to, marked, MarksNeeded}
use Rattle.finding.specs.Resting.{AreNeeded}
use Rattle.finding.proofs.Premises.{needed_within}

-- a list that was written over whole
pub written_over : (n : ℕ) (xs ys : List Bool) → length ys ≡ length xs → length xs ≡ n → take n (ys ++ drop (length ys) xs) ≡ ys
written_over n xs ys e f =
    let none : drop (length ys) xs ≡ [] = drop_of_length-le xs (omega (arith, e)) in
    ap (λ zs. take n (ys ++ zs)) none ∙ ap (take n) (append-nil ys) ∙ ap (λ k. take k ys) (sym (e ∙ f)) ∙ take-length ys

module _ (ms : List Bool) where
  -- the marked ones of 1 to n
  abbrev pub marked_to : ℕ → List ℕ
  marked_to n = filter (marked ms) (numbers_to n)

  marked_more : (n : ℕ) → marked_to (n + 1) ≡ marked_to n ++ cond (marked ms (n + 1)) ((n + 1) ∷ []) []
  marked_more n = filter_of_map_range_with_len_more (marked ms) (λ i. i + 1) 0 n n (omega arith)

  pub marked_here : (n : ℕ) → marked ms (n + 1) ≡ true → marked_to (n + 1) ≡ marked_to n ++ (n + 1) ∷ []
  marked_here n m = marked_more n ∙ ap (λ b. marked_to n ++ cond b ((n + 1) ∷ []) []) m

  pub unmarked_here : (n : ℕ) → marked ms (n + 1) ≡ false → marked_to (n + 1) ≡ marked_to n
  unmarked_here n m = marked_more n ∙ ap (λ b. marked_to n ++ cond b ((n + 1) ∷ []) []) m ∙ append-nil (marked_to n)

-- what passes is kept
contains_filter : (p : ℕ → Bool) (xs : List ℕ) (x : ℕ) → Contains xs x → p x ≡ true → Contains (filter p xs) x
contains_filter p [] x (k, lt, is) t = absurd (omega (arith, lt))
contains_filter p (y ∷ ys) x (zero, lt, is) t =
    let passes : p y ≡ true = ap p is ∙ t in
    subst (λ b. Contains (cond b (y ∷ filter p ys) (filter p ys)) x) (sym passes) (0, omega arith, is)
contains_filter p (y ∷ ys) x (suc k, lt, is) t =
    let rest = contains_filter p ys x (k, omega (arith, lt), is) t in
    elim (p y) as (λ b. Contains (cond b (y ∷ filter p ys) (filter p ys)) x) [ true ↦ (suc rest.0, omega (arith, rest.1), rest.2) | false ↦ rest ]

numbers_at : (n i : ℕ) (d : ℕ) → i < n → get_or (numbers_to n) i d ≡ i + 1
numbers_at n i d lt = get_or-map-range_with_len (λ i. i + 1) 0 n i i d lt (omega arith)

length-numbers_to : (n : ℕ) → length (numbers_to n) ≡ n
length-numbers_to n = length-map-range_with_len (λ i. i + 1) 0 n

numbers_increase : (n : ℕ) → IsStrictlyIncreasing (numbers_to n)
numbers_increase n k lt =
    let len = length-numbers_to n in
    omega (arith, numbers_at n k 0 (omega (arith, lt, len)), numbers_at n (k + 1) 0 (omega (arith, lt, len)))

numbers_within : (n : ℕ) → All (λ k. (0 < k) × (k ≤ n)) (numbers_to n)
numbers_within n k d lt =
    let len = length-numbers_to n in
    let is = numbers_at n k d (omega (arith, lt, len)) in
    (omega (arith, is), omega (arith, is, lt, len))

contains_number : (n k : ℕ) → 0 < k → k ≤ n → Contains (numbers_to n) k
contains_number n k some le = (k - 1, omega (arith, some, le, length-numbers_to n), numbers_at n (k - 1) k (omega (arith, some, le)) ∙ omega (arith, some))

module _ (ms : List Bool) (n : ℕ) where
  marked_increase : IsStrictlyIncreasing (marked_to ms n)
  marked_increase = IsStrictlyIncreasing-filter (marked ms) (numbers_to n) (numbers_increase n)

  marked_within_all : All (λ k. (0 < k) × (k ≤ n)) (marked_to ms n)
  marked_within_all = All-filter (marked ms) (λ k. (0 < k) × (k ≤ n)) (numbers_to n) (numbers_within n)

  marked_contained : (k : ℕ) → 0 < k → k ≤ n → marked ms k ≡ true → Contains (marked_to ms n) k
  marked_contained k some le m = contains_filter (marked ms) (numbers_to n) k (contains_number n k some le) m

  contained_marked : (k : ℕ) → Contains (marked_to ms n) k → (0 < k) × (k ≤ n) × (marked ms k ≡ true)
  contained_marked k (i, lt, is) =
      let w = marked_within_all i k lt in
      (subst (λ j. 0 < j) is w.0, subst (λ j. j ≤ n) is w.1, ap (marked ms) (sym is) ∙ filter_passes (marked ms) (numbers_to n) i k lt)

-- the marked numbers are those of the needed lines
pub are_needed : (rs : List Record) (ls : List Line) (ms : List Bool) → MarksNeeded rs ls ms → AreNeeded rs ls (marked_to ms (length ms))
are_needed rs ls ms h = (
  marked_increase ms (length ms),
  λ k. (
    λ c. let m = contained_marked ms (length ms) k c in (h.1 k m.0).0 m.2,
    λ needed.
        let w = needed_within rs ls k needed in
        marked_contained ms (length ms) k w.0 (omega (arith, w.1, h.0)) ((h.1 k w.0).1 needed),
  ),
)

pub needed_all_within : (rs : List Record) (ls : List Line) (ks : List ℕ) → AreNeeded rs ls ks → All (λ k. (0 < k) × (k ≤ length ls)) ks
needed_all_within rs ls ks h i d lt = let k : ℕ = get_or ks i d in needed_within rs ls k ((h.1 k).0 (i, lt, get_or_default ks i k d lt))

-- Placed records are different ones, so that there is room for one more. Assumes nothing.
use Rattle.std.proofs.Common.{◌≡◌, ℕ, ◌<◌, ◌≤◌, true, false, not, eqb, List, [], ◌∷◌, ◌++◌, length, sym, refl, ◌∙◌, arith}
use Rattle.std.proofs.lemmas.Bool.{and_parts, and_from, or_parts, or_from, not-true, not_from_false, eqb-false, ne_eqb}
use Rattle.std.proofs.lemmas.List.Folds.{list_any-append}
use Rattle.memory.specs.Runs.{Run, has}
use Rattle.memory.proofs.Present.{Distinct, left_length}
use Rattle.inference.specs.Rules.{among}
use Rattle.inference.proofs.Follows.{known_is, is_known}
use Rattle.search.specs.Placing.{distinct}

-- the numbers 1 to n as those of records that nothing is known of
abbrev numbers : ℕ → Run
numbers n = record { size = n; model = λ _ _. false; clock = λ _ _. false; load = λ _. false; store = λ _. false; addr = λ _. 0; value = λ _. 0 }

different : (n : ℕ) (xs : List ℕ) → distinct n xs ≡ true → Distinct (numbers n) xs
different n [] e = tt
different n (x ∷ xs) e =
    let p = and_parts (among n x) _ e in
    let q = and_parts (not (has xs x)) _ p.1 in
    (known_is (numbers n) x p.0, not-true _ q.0, different n xs q.1)

pub few_placed : (n : ℕ) (xs : List ℕ) → distinct n xs ≡ true → length xs ≤ n
few_placed n xs e = omega (arith, left_length (numbers n) xs (different n xs e))

-- one more finds room
pub room_left : (n : ℕ) (xs : List ℕ) (x : ℕ) → among n x ≡ true → has xs x ≡ false → distinct n xs ≡ true → length xs < n
room_left n xs x k new e = few_placed n (x ∷ xs) (and_from (among n x) _ k (and_from (not (has xs x)) _ (not_from_false _ new) e))

pub among_more : (n m x : ℕ) → n ≤ m → among n x ≡ true → among m x ≡ true
among_more n m x le e = let k = known_is (numbers n) x e in is_known (numbers m) x (record { some = k.some; within = omega (arith, k.within) })

pub distinct_more : (n m : ℕ) → n ≤ m → (xs : List ℕ) → distinct n xs ≡ true → distinct m xs ≡ true
distinct_more n m le [] e = refl
distinct_more n m le (x ∷ xs) e =
    let p = and_parts (among n x) _ e in
    let q = and_parts (not (has xs x)) _ p.1 in
    and_from (among m x) _ (among_more n m x le p.0) (and_from (not (has xs x)) _ q.0 (distinct_more n m le xs q.1))

-- what is not among the front and one more
has_push : (xs : List ℕ) (x a : ℕ) → has xs a ≡ false → eqb x a ≡ false → has (xs ++ x ∷ []) a ≡ false
has_push xs x a h e = list_any-append (λ y. eqb y a) xs (x ∷ []) ∙ or_from (has xs a) _ h (or_from (eqb x a) false e refl)

has_front : (xs ys : List ℕ) (a : ℕ) → has (xs ++ ys) a ≡ false → has xs a ≡ false
has_front xs ys a h = (or_parts (has xs a) (has ys a) (sym (list_any-append (λ y. eqb y a) xs ys) ∙ h)).0

pub distinct_push : (n : ℕ) (xs : List ℕ) (x : ℕ) → among n x ≡ true → has xs x ≡ false → distinct n xs ≡ true → distinct n (xs ++ x ∷ []) ≡ true
distinct_push n [] x k new e = and_from (among n x) true k refl
distinct_push n (y ∷ xs) x k new e =
    let p = and_parts (among n y) _ e in
    let q = and_parts (not (has xs y)) _ p.1 in
    let o = or_parts (eqb y x) (has xs x) new in
    let other : eqb x y ≡ false = ne_eqb x y (λ i. eqb-false y x o.0 (sym i)) in
    and_from (among n y) _ p.0 (and_from (not (has (xs ++ x ∷ []) y)) _ (not_from_false _ (has_push xs x y (not-true _ q.0) other)) (distinct_push n xs x k o.1 q.1))

pub distinct_front : (n : ℕ) (xs ys : List ℕ) → distinct n (xs ++ ys) ≡ true → distinct n xs ≡ true
distinct_front n [] ys e = refl
distinct_front n (x ∷ xs) ys e =
    let p = and_parts (among n x) _ e in
    let q = and_parts (not (has (xs ++ ys) x)) _ p.1 in
    and_from (among n x) _ p.0 (and_from (not (has xs x)) _ (not_from_false _ (has_front xs ys x (not-true _ q.0))) (distinct_front n xs ys q.1))

-- Lines whose pairs are of records and differ: there are few, and the next line goes with them. Assumes nothing.
use Rattle.std.proofs.Common.{◌≡◌, ℕ, zero, suc, ◌+◌, ◌-◌, ◌*◌, ◌<◌, ◌≤◌, Bool, true, false, not, ◌&&◌, eqb, ltb, leb, List, [], ◌∷◌, ◌++◌, length, sym, refl, ◌∙◌, subst, ⊎_elim, zero-le, suc-mul, mul-le-mul, arith}
use Rattle.std.proofs.lemmas.List.Folds.{list_any-append}
use Rattle.std.proofs.lemmas.Bool.{and_parts, and_from, and_left, and_right, or_parts, or_from, or_left, not-true, not_from_true, not_from_false, eq-eqb, eqb-true, ltb-true, leb-true, lt-ltb, le-leb, ne_eqb, cases_Bool, cases_eq, both_ways}
use Rattle.memory.specs.declared.lines.Line.{Line}
use Rattle.memory.specs.Runs.{Run}
use Rattle.memory.proofs.Present.{count, count_le, count_less}
use Rattle.inference.specs.Rules.{among, has_pair, listed, follows}
use Rattle.inference.specs.Next.{fits}
use Rattle.inference.specs.Paired.{of_two, paired}
use Rattle.inference.proofs.Follows.{following}
use Rattle.inference.proofs.Listed.{listed_push}

-- the sum of f over 1 to n
abbrev total : (ℕ → ℕ) → ℕ → ℕ
total f zero = 0
total f (suc n) = f (suc n) + total f n

total_le : (f g : ℕ → ℕ) (n : ℕ) → ((k : ℕ) → g k ≤ f k) → total g n ≤ total f n
total_le f g zero h = omega arith
total_le f g (suc n) h = omega (arith, h (suc n), total_le f g n h)

-- the sum falls with one of its parts
total_less : (f g : ℕ → ℕ) (x n : ℕ) → ((k : ℕ) → g k ≤ f k) → 0 < x → x ≤ n → g x < f x → total g n < total f n
total_less f g x zero h some under lt = absurd (omega arith)
total_less f g x (suc n) h some under lt =
    ⊎_elim (λ e. omega (arith, total_le f g n h, subst (λ k. g k < f k) e lt)) (λ e. omega (arith, h (suc n), total_less f g x n h some (omega arith) lt)) (cases_eq x (suc n))

total_few : (f : ℕ → ℕ) (m n : ℕ) → ((a : ℕ) → 0 < a → a ≤ n → f a ≤ m) → total f n ≤ n * m
total_few f m zero h = zero-le
total_few f m (suc n) h = omega (arith, suc-mul n m, h (suc n) (omega arith) (omega arith), total_few f m n (λ a some under. h a some (omega arith)))

-- two different numbers whose pair is not listed
abbrev free : List Line → ℕ → ℕ → Bool
free ls a b = not (eqb a b) && not (listed ls a b)

-- how many such pairs there are of 1 to n
abbrev free_pairs : ℕ → List Line → ℕ
free_pairs n ls = total (λ a. count (free ls a) n) n

count_all : (n : ℕ) → count (λ _. true) n ≡ n
count_all zero = refl
count_all (suc n) = omega (arith, count_all n)

none_listed : (n : ℕ) → free_pairs n [] ≤ n * (n - 1)
none_listed n =
    total_few (λ a. count (free [] a) n) (n - 1) n
    (λ a some under. omega (arith, count_all n, count_less (λ _. true) (free [] a) a n (λ _ _. refl) some under refl (and_left (not (eqb a a)) true (not_from_true (eqb a a) (eq-eqb a a refl)))))

-- what `of_two` says
record Two (n : ℕ) (l : Line) : Type 0 where
  first : (0 < l.first) × (l.first ≤ n)
  second : (0 < l.second) × (l.second ≤ n)
  apart : eqb l.first l.second ≡ false

two : (n : ℕ) (l : Line) → of_two n l ≡ true → Two n l
two n l e =
    let p = and_parts (among n l.first) _ e in
    let q = and_parts (among n l.second) _ p.1 in
    record { first = within l.first p.0; second = within l.second q.0; apart = not-true _ q.1 }
  where
    within : (a : ℕ) → among n a ≡ true → (0 < a) × (a ≤ n)
    within a e = let p = and_parts (ltb 0 a) (leb a n) e in (ltb-true 0 a p.0, leb-true a n p.1)

is_two : (n : ℕ) (l : Line) → Two n l → of_two n l ≡ true
is_two n l t = and_from _ _ (inside l.first t.first) (and_from _ _ (inside l.second t.second) (not_from_false _ t.apart))
  where
    inside : (a : ℕ) → (0 < a) × (a ≤ n) → among n a ≡ true
    inside a (some, within) = and_from (ltb 0 a) (leb a n) (lt-ltb 0 a some) (le-leb a n within)

-- a new pair leaves fewer
falls : (n : ℕ) (ls : List Line) (l : Line) → Two n l → listed ls l.first l.second ≡ false → free_pairs n (l ∷ ls) < free_pairs n ls
falls n ls l t new =
    let a : ℕ = l.first in
    let b : ℕ = l.second in
    let lt = count_less (free ls a) (free (l ∷ ls) a) b n (fewer a) t.second.0 t.second.1
    (and_from (not (eqb a b)) (not (listed ls a b)) (not_from_false (eqb a b) t.apart) (not_from_false (listed ls a b) new))
    (and_right (not (eqb a b)) (not (listed (l ∷ ls) a b)) (not_from_true (listed (l ∷ ls) a b) (or_left (has_pair a b l) (listed ls a b) (and_from (eqb a a) (eqb b b) (eq-eqb a a refl) (eq-eqb b b refl))))) in
    total_less (λ a. count (free ls a) n) (λ a. count (free (l ∷ ls) a) n) a n (λ k. count_le (free ls k) (free (l ∷ ls) k) n (fewer k)) t.first.0 t.first.1 (omega arith)
  where
    fewer : (k j : ℕ) → free (l ∷ ls) k j ≡ true → free ls k j ≡ true
    fewer k j h =
        let p = and_parts (not (eqb k j)) (not (listed (l ∷ ls) k j)) h in
        and_from (not (eqb k j)) (not (listed ls k j)) p.0 (not_from_false (listed ls k j) (or_parts (has_pair k j l) (listed ls k j) (not-true (listed (l ∷ ls) k j) p.1)).1)

-- the parts of `paired`
first_paired : (n : ℕ) (l : Line) (ls : List Line) → paired n (l ∷ ls) ≡ true → (of_two n l ≡ true) × (listed ls l.first l.second ≡ false) × (paired n ls ≡ true)
first_paired n l ls e =
    let p = and_parts (of_two n l) _ e in
    let q = and_parts (not (listed ls l.first l.second)) (paired n ls) p.1 in
    (p.0, not-true _ q.0, q.1)

from_first : (n : ℕ) (l : Line) (ls : List Line) → of_two n l ≡ true → listed ls l.first l.second ≡ false → paired n ls ≡ true → paired n (l ∷ ls) ≡ true
from_first n l ls t new rest = and_from (of_two n l) _ t (and_from (not (listed ls l.first l.second)) (paired n ls) (not_from_false _ new) rest)

with_free : (n : ℕ) (ls : List Line) → paired n ls ≡ true → length ls + free_pairs n ls ≤ n * (n - 1)
with_free n [] h = omega (arith, none_listed n)
with_free n (l ∷ ls) h = let p = first_paired n l ls h in omega (arith, falls n ls l (two n l p.0) p.1, with_free n ls p.2)

pub few_lines : (n : ℕ) (ls : List Line) → paired n ls ≡ true → length ls ≤ n * (n - 1)
few_lines n ls h = omega (arith, with_free n ls h)

pub few_lines_64 : (n : ℕ) (ls : List Line) → n ≤ 64 → paired n ls ≡ true → length ls ≤ 4032
few_lines_64 n ls few h = omega (arith, few_lines n ls h, mul-le-mul {n₁ = n} {m₁ = n - 1} {n₂ = 64} {m₂ = 63} few (omega arith))

pub paired_more : (m n : ℕ) → m ≤ n → (ls : List Line) → paired m ls ≡ true → paired n ls ≡ true
paired_more m n le [] h = refl
paired_more m n le (l ∷ ls) h =
    let p = first_paired m l ls h in
    let t = two m l p.0 in
    from_first n l ls (is_two n l (record { first = (t.first.0, omega (arith, t.first.1)); second = (t.second.0, omega (arith, t.second.1)); apart = t.apart })) p.1 (paired_more m n le ls p.2)

-- of two lines, neither has the pair of the other
apart_back : (k l : Line) → has_pair l.first l.second k ≡ false → has_pair k.first k.second l ≡ false
apart_back k l e =
    ⊎_elim
    (λ same.
    let p = and_parts (eqb l.first k.first) (eqb l.second k.second) same in
    absurd (both_ways _ e (and_from (eqb k.first l.first) (eqb k.second l.second) (eq-eqb _ _ (sym (eqb-true _ _ p.0))) (eq-eqb _ _ (sym (eqb-true _ _ p.1))))))
    (λ other. other) (cases_Bool (has_pair k.first k.second l))

with_last : (n : ℕ) (ls : List Line) (l : Line) → paired n ls ≡ true → of_two n l ≡ true → listed ls l.first l.second ≡ false → paired n (ls ++ l ∷ []) ≡ true
with_last n [] l h t new = from_first n l [] t refl refl
with_last n (k ∷ ls) l h t new =
    let p = first_paired n k ls h in
    let q = or_parts (has_pair l.first l.second k) (listed ls l.first l.second) new in
    from_first n k (ls ++ l ∷ []) p.0 (listed_push ls l k.first k.second ∙ or_from (listed ls k.first k.second) _ p.1 (apart_back k l q.0)) (with_last n ls l p.2 t q.1)

-- a line that fits goes with those that are listed
pub paired_push : (R : Run) (n : ℕ) → R.size ≤ n → (ls : List Line) (l : Line) → paired n ls ≡ true → fits R ls l ≡ true → paired n (ls ++ l ∷ []) ≡ true
paired_push R n few ls l h fit =
    let p = and_parts (follows R ls l) (not (listed ls l.first l.second)) fit in
    let t = following R ls l p.0 in
    with_last n ls l h
    (is_two n l (record { first = (t.first.some, omega (arith, t.first.within)); second = (t.second.some, omega (arith, t.second.within)); apart = ne_eqb _ _ t.apart }))
    (not-true _ p.1)

-- and the pair of each is none of those listed before it
pub new_among : (n : ℕ) (ls : List Line) (l : Line) (more : List Line) → paired n (ls ++ l ∷ more) ≡ true → listed ls l.first l.second ≡ false
new_among n [] l more h = refl
new_among n (k ∷ ls) l more h =
    let p = first_paired n k (ls ++ l ∷ more) h in
    let q = or_parts (listed ls k.first k.second) (listed (l ∷ more) k.first k.second) (sym (list_any-append (has_pair k.first k.second) ls (l ∷ more)) ∙ p.1) in
    or_from (has_pair l.first l.second k) _ (apart_back l k (or_parts (has_pair k.first k.second l) (listed more k.first k.second) q.1).0) (new_among n ls l more p.2)

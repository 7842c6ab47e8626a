-- The rows of lanes.
use Rattle.std.proofs.Common.{◌≡◌, ℕ, zero, suc, ◌+◌, ◌-◌, ◌<◌, ◌≤◌, ◌⊎◌, inl, inr, List, [], ◌∷◌, length, take, get_or, slice_index, ◌==◌, nat_lt, eq-eqb, ap, sym, ◌∙◌, subst, arith, refl}
use Rattle.std.specs.List.{count_by}
use Rattle.std.proofs.lemmas.Bool.{cases_lt}
use Rattle.std.proofs.lemmas.Grind.{common_steps}
use Rattle.std.proofs.lemmas.List.{take-take, get_or_default}
use Rattle.std.proofs.lemmas.List.Sums.{count_by-le-length, count_by_more_yes, sum_by-take-le}
use Rattle.memory.specs.declared.records.Record.{Record}
use Rattle.memory.specs.Runs.{blank}
use Rattle.drawing.specs.Lanes.{records_of, rows_above, row, IsAbove, InLanes}

-- as many records are of lower processors
below : List Record → ℕ → ℕ
below rs p = count_by (λ r. nat_lt r.processor p) rs

below_more : (rs : List Record) (p : ℕ) → below rs (suc p) ≡ below rs p + records_of rs p
unfolding below
below_more [] p = refl
below_more (r ∷ rs) p = grind (arith, common_steps, below_more rs p)

rows_bound : (rs : List Record) (p : ℕ) → rows_above rs p ≤ below rs p + p
rows_bound rs zero = omega arith
rows_bound rs (suc p) = omega (arith, rows_bound rs p, below_more rs p)

-- the rows above a lane and its records are few enough to be counted
pub rows_fit : (rs : List Record) (p : ℕ) → rows_above rs p + records_of rs p ≤ length rs + p
unfolding below
rows_fit rs p = omega (arith, rows_bound rs p, below_more rs p, count_by-le-length (λ r. nat_lt r.processor (suc p)) rs)

rows_rise : (rs : List Record) (p q : ℕ) → p ≤ q → rows_above rs p ≤ rows_above rs q
rows_rise rs p zero le = let e : 0 ≡ p = omega (arith, le) in subst (λ x. rows_above rs x ≤ 0) e (omega arith)
rows_rise rs p (suc q) le =
    elim (cases_lt p (suc q)) [
      | inl lt ↦ omega (arith, rows_rise rs p q (omega (arith, lt)))
      | inr ge ↦ let e : suc q ≡ p = omega (arith, le, ge) in subst (λ x. rows_above rs x ≤ rows_above rs (suc q)) e (omega arith)
    ]

taken_rise : (rs : List Record) (i j p : ℕ) → i ≤ j → records_of (take i rs) p ≤ records_of (take j rs) p
taken_rise rs i j p le = subst (λ xs. records_of xs p ≤ records_of (take j rs) p) (take-take i j rs le) (sum_by-take-le _ (take j rs) i)

pub taken_few : (rs : List Record) (i p : ℕ) → records_of (take i rs) p ≤ records_of rs p
taken_few rs i p = sum_by-take-le _ rs i

taken_more : (rs : List Record) (i : ℕ) → i < length rs → let p = (get_or rs i blank).processor in records_of (take (i + 1) rs) p ≡ records_of (take i rs) p + 1
taken_more rs i in_it = let p = (get_or rs i blank).processor in count_by_more_yes (λ r. r.processor == p) rs i blank in_it (eq-eqb p p refl)

-- records of one processor: the later has a row further down, and each is in its lane
row_later : (rs : List Record) (i j : ℕ) → i < j → i < length rs → let p = (get_or rs i blank).processor in records_of (take i rs) p < records_of (take j rs) p
row_later rs i j lt in_it = let p = (get_or rs i blank).processor in omega (arith, taken_more rs i in_it, taken_rise rs (i + 1) j p (omega (arith, lt)))

pub row_fits : (rs : List Record) (i p : ℕ) → rows_above rs p + records_of (take i rs) p ≤ length rs + p
row_fits rs i p = omega (arith, rows_fit rs p, taken_few rs i p)

-- Of the records at indices.

abbrev pub processor_at : List Record → ℕ → ℕ
processor_at rs i = (get_or rs i blank).processor

-- the row of the record at an index
abbrev pub place : List Record → ℕ → ℕ
place rs i = rows_above rs (processor_at rs i) + records_of (take i rs) (processor_at rs i)

abbrev Above : List Record → ℕ → ℕ → Type 0
Above rs i j = (processor_at rs i < processor_at rs j) ⊎ ((processor_at rs i ≡ processor_at rs j) × (i < j))

place_in_lane : (rs : List Record) (i : ℕ) → i < length rs → (rows_above rs (processor_at rs i) ≤ place rs i) × (place rs i < rows_above rs (processor_at rs i + 1))
place_in_lane rs i in_it = (omega arith, grind (arith, taken_more rs i in_it, taken_few rs (i + 1) (processor_at rs i)))

place_lower : (rs : List Record) (i j : ℕ) → i < length rs → j < length rs → processor_at rs i < processor_at rs j → place rs i < place rs j
place_lower rs i j i_in j_in lower = omega (arith, (place_in_lane rs i i_in).1, (place_in_lane rs j j_in).0, rows_rise rs (processor_at rs i + 1) (processor_at rs j) (omega (arith, lower)))

place_later : (rs : List Record) (i j : ℕ) → i < length rs → processor_at rs i ≡ processor_at rs j → i < j → place rs i < place rs j
place_later rs i j i_in same later = subst (λ p. place rs i < rows_above rs p + records_of (take j rs) p) same (omega (arith, row_later rs i j later i_in))

place_rises : (rs : List Record) (i j : ℕ) → i < length rs → j < length rs → Above rs i j → place rs i < place rs j
place_rises rs i j i_in j_in (inl lower) = place_lower rs i j i_in j_in lower
place_rises rs i j i_in j_in (inr (same, later)) = place_later rs i j i_in same later

trichotomy : (m n : ℕ) → (m < n) ⊎ ((m ≡ n) ⊎ (n < m))
trichotomy m n =
    elim (cases_lt m n) [
      | inl lt ↦ inl lt
      | inr ge ↦ elim (cases_lt n m) [ inl gt ↦ inr (inr gt) | inr le ↦ inr (inl (omega (arith, le, ge))) ]
    ]

one_lane : (rs : List Record) (i j : ℕ) → j < length rs → place rs i < place rs j → processor_at rs i ≡ processor_at rs j → Above rs i j
one_lane rs i j j_in lt same =
    elim (trichotomy i j) [
      | inl earlier ↦ inr (same, earlier)
      | inr (inl equal) ↦ absurd (let e : place rs i ≡ place rs j = ap (place rs) equal in omega (arith, e, lt))
      | inr (inr later) ↦ absurd (omega (arith, lt, place_later rs j i j_in (sym same) later))
    ]

place_reflects : (rs : List Record) (i j : ℕ) → i < length rs → j < length rs → place rs i < place rs j → Above rs i j
place_reflects rs i j i_in j_in lt =
    elim (trichotomy (processor_at rs i) (processor_at rs j)) [
      | inl lower ↦ inl lower
      | inr (inl same) ↦ one_lane rs i j j_in lt same
      | inr (inr higher) ↦ absurd (omega (arith, lt, place_lower rs j i j_in i_in higher))
    ]

-- Of the records by their numbers.

to_index : (rs : List Record) (a b : ℕ) → 0 < a → IsAbove rs a b → Above rs (a - 1) (b - 1)
to_index rs a b some (inl lower) = inl lower
to_index rs a b some (inr (same, earlier)) = inr (same, omega (arith, some, earlier))

to_number : (rs : List Record) (a b : ℕ) → 0 < a → Above rs (a - 1) (b - 1) → IsAbove rs a b
to_number rs a b some (inl lower) = inl lower
to_number rs a b some (inr (same, earlier)) = inr (same, omega (arith, some, earlier))

-- where each record has its row, they are in their lanes
pub in_lanes : (rs : List Record) (rows : List ℕ) → length rows ≡ length rs → ((k : ℕ) → k < length rs → slice_index rows k ≡ place rs k) → InLanes rs rows
in_lanes rs rows each is = record {
  each = each;
  above = λ a b a_some a_in b_some b_in h.
      let i_in : a - 1 < length rs = omega (arith, a_some, a_in) in
      let j_in : b - 1 < length rs = omega (arith, b_some, b_in) in
      omega (arith, is (a - 1) i_in, is (b - 1) j_in, place_rises rs (a - 1) (b - 1) i_in j_in (to_index rs a b a_some h));
  only_above = λ a b a_some a_in b_some b_in lt.
      let i_in : a - 1 < length rs = omega (arith, a_some, a_in) in
      let j_in : b - 1 < length rs = omega (arith, b_some, b_in) in
      to_number rs a b a_some (place_reflects rs (a - 1) (b - 1) i_in j_in (omega (arith, lt, is (a - 1) i_in, is (b - 1) j_in)));
  within = λ a some a_in.
      let i_in : a - 1 < length rs = omega (arith, some, a_in) in
      let lane = place_in_lane rs (a - 1) i_in in
      (omega (arith, is (a - 1) i_in, lane.0), omega (arith, is (a - 1) i_in, lane.1));
}

pub place_is : (rs : List Record) (i : ℕ) → row rs (i + 1) ≡ place rs i
place_is rs i = let e : i + 1 - 1 ≡ i = omega arith in ap (place rs) e

-- the two parts of a row, of which a record was read
pub place_read : (rs : List Record) (i : ℕ) (d : Record) (n m : ℕ) → i < length rs → n ≡ rows_above rs (get_or rs i d).processor → m ≡ records_of (take i rs) (get_or rs i d).processor → n + m ≡ row rs (i + 1)
place_read rs i d n m in_it above own =
    let e = get_or_default rs i d blank in_it in
    let above' : n ≡ rows_above rs (processor_at rs i) = above ∙ ap (λ r. rows_above rs r.processor) e in
    let own' : m ≡ records_of (take i rs) (processor_at rs i) = own ∙ ap (λ r. records_of (take i rs) r.processor) e in
    omega (arith, above', own', place_is rs i)

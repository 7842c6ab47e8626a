-- Marks from the last line down. Assumes nothing.
use Rattle.std.proofs.Common.{◌≡◌, ℕ, ◌-◌, ◌<◌, ◌≤◌, Bool, true, false, ◌⊎◌, ◌↔◌, List, length, get_or, set, replicate, Some, None, sym, ap, ◌∙◌, subst, inl, inr, ⊎_elim, arith}
use Rattle.std.proofs.lemmas.Bool.{both_ways, cases_eq, cases_lt}
use Rattle.std.proofs.lemmas.List.{get_or_past, get_or-replicate, get_or-set_same, get_or-set_other, length-replicate, length-set}
use Rattle.memory.specs.declared.lines.Line.{Line}
use Rattle.memory.specs.declared.records.Record.{Record}
use Rattle.memory.proofs.Least.{least_once}
use Rattle.finding.specs.Finding.{opposed_to}
use Rattle.finding.proofs.Premises.{rests_before}
use Rattle.finding.specs.Marks.{marked, MarksOpposed, MarksPremises, ClosesMarks, MarksNeeded}
use Rattle.finding.specs.Resting.{line_at, RestsOn, LastOpposed, IsOpposed}

-- only lines of the list are marked
pub marked_within : (ms : List Bool) (n k : ℕ) → length ms ≡ n → marked ms k ≡ true → k ≤ n
marked_within ms n k e m = ⊎_elim (λ lt. absurd (both_ways _ (get_or_past ms (k - 1) false (omega (arith, e, lt))) m)) (λ le. le) (cases_lt n k)

module _ (rs : List Record) (ls : List Line) where
  pub closes_start : (ms : List Bool) → length ms ≡ length ls → ClosesMarks rs ls (length ls) ms ms
  closes_start ms e = record {
    kept = λ k m. m;
    only = λ p has closed. has;
    closed = λ i j lt m r. absurd (omega (arith, marked_within ms (length ls) i e m));
  }

  -- what the line at a marked index rests on is marked
  pub closes_marked : (first ms ns : List Bool) (n : ℕ) → 0 < n → ClosesMarks rs ls n first ms → marked ms n ≡ true → MarksPremises rs ls n ms ns → ClosesMarks rs ls (n - 1) first ns
  closes_marked first ms ns n some h here step = record {
    kept = λ k m. step.0 k (h.kept k m);
    only = λ p has closed k more m. ⊎_elim (h.only p has closed k more) (closed n k (h.only p has closed n some here)) (step.1 k more m);
    closed = λ i j lt m r.
        ⊎_elim (λ e. step.2 j (subst (λ x. RestsOn rs ls x j) e r))
        (λ ne. step.0 j (h.closed i j (omega (arith, ne)) (⊎_elim (λ old. old) (λ new. absurd (omega (arith, ne, rests_before rs ls n i new))) (step.1 i (omega arith) m)) r))
        (cases_eq i n);
  }

  pub closes_unmarked : (first ms : List Bool) (n : ℕ) → ClosesMarks rs ls n first ms → marked ms n ≡ false → ClosesMarks rs ls (n - 1) first ms
  closes_unmarked first ms n h not_here = record {
    kept = h.kept;
    only = h.only;
    closed = λ i j lt m r.
        ⊎_elim (λ e. absurd (both_ways _ (subst (λ x. marked ms x ≡ false) (sym e) not_here) m)) (λ ne. h.closed i j (omega (arith, ne)) m r) (cases_eq i n);
  }

-- Where no line is marked yet.
abbrev pub none_marked : List Line → List Bool
none_marked ls = replicate (length ls) false

none_is_marked : (ls : List Line) (k : ℕ) → marked (none_marked ls) k ≡ false
none_is_marked ls k =
    ⊎_elim (λ lt. get_or-replicate (length ls) (k - 1) false false lt)
    (λ le. get_or_past (none_marked ls) (k - 1) false (omega (arith, le, length-replicate (length ls) false)))
    (cases_lt (k - 1) (length ls))

pub marks_none : (ls : List Line) (ms : List Bool) → LastOpposed ls None → ms ≡ none_marked ls → MarksOpposed ls ms
marks_none ls ms none e = (
  ap length e ∙ length-replicate (length ls) false,
  λ k some. (λ m. absurd (both_ways _ (none_is_marked ls k) (subst (λ xs. marked xs k ≡ true) e m)), λ o. absurd (both_ways _ (none o.0 o.1.0 o.1.1) o.1.2)),
)

-- a number marked
marks_it : (ms : List Bool) (k : ℕ) → k - 1 < length ms → marked (set ms (k - 1) true) k ≡ true
marks_it ms k lt = get_or-set_same ms (k - 1) true false lt

marks_only : (ms : List Bool) (j k : ℕ) → 0 < j → 0 < k → marked (set ms (j - 1) true) k ≡ true → (marked ms k ≡ true) ⊎ (k ≡ j)
marks_only ms j k a b m =
    ⊎_elim (λ e. inr (omega (arith, e))) (λ ne. inl (sym (get_or-set_other ms (j - 1) (k - 1) true false ne) ∙ m)) (cases_eq (k - 1) (j - 1))

marks_still : (ms : List Bool) (j k : ℕ) → j - 1 < length ms → marked ms k ≡ true → marked (set ms (j - 1) true) k ≡ true
marks_still ms j k lt m =
    ⊎_elim (λ e. subst (λ i. get_or (set ms (j - 1) true) i false ≡ true) (sym e) (marks_it ms j lt))
    (λ ne. get_or-set_other ms (j - 1) (k - 1) true false ne ∙ m)
    (cases_eq (k - 1) (j - 1))

pub marks_two : (ls : List Line) (ms : List Bool) (j : ℕ) → LastOpposed ls (Some j) → ms ≡ set (set (none_marked ls) (j - 1) true) (length ls - 1) true → MarksOpposed ls ms
marks_two ls ms j h e =
    let n : ℕ = length ls in
    let none = none_marked ls in
    let one = set none (j - 1) true in
    let len : length none ≡ n = length-replicate n false in
    let len1 : length one ≡ n = length-set none (j - 1) true ∙ len in
    let in_one : n - 1 < length one = omega (arith, len1, h.0, h.1) in
    let in_none : j - 1 < length none = omega (arith, len, h.0, h.1) in
    let just : (k : ℕ) → 0 < k → (marked (set one (n - 1) true) k ≡ true) ↔ IsOpposed ls k = λ k some. (
      λ m. (
        j,
        h,
        ⊎_elim (λ old. ⊎_elim (λ older. absurd (both_ways _ (none_is_marked ls k) older)) (λ is. inr is) (marks_only none j k h.0 some old))
            (λ is. inl is) (marks_only one n k (omega (arith, h.0, h.1)) some m),
      ),
      λ o.
          let same : o.0 ≡ j = cc (least_once (opposed_to (line_at ls n) ls) (n - 1) (Some o.0) (Some j) o.1 h) in
          ⊎_elim (λ is. subst (λ x. marked (set one (n - 1) true) x ≡ true) (sym is) (marks_it one n in_one))
          (λ is. subst (λ x. marked (set one (n - 1) true) x ≡ true) (sym (is ∙ same)) (marks_still one n j in_one (marks_it none j in_none)))
          o.2,
    )
    in
    (ap length e ∙ length-set one (n - 1) true ∙ len1, λ k some. subst (λ xs. (marked xs k ≡ true) ↔ IsOpposed ls k) (sym e) (just k some))

-- when each marked line has what it rests on marked, just the needed ones are
pub marks_needed : (rs : List Record) (ls : List Line) (first ms : List Bool) → MarksOpposed ls first → ClosesMarks rs ls 0 first ms → length ms ≡ length first → MarksNeeded rs ls ms
marks_needed rs ls first ms start h len =
    let opposed_some : (k : ℕ) → IsOpposed ls k → 0 < k = λ k o. ⊎_elim (λ e. omega (arith, e, o.1.0, o.1.1)) (λ e. omega (arith, e, o.1.0)) o.2 in (
      len ∙ start.0,
      λ k some. (
        λ m p has closed. h.only p (λ j more old. has j ((start.1 j more).0 old)) closed k some m,
        λ needed.
            needed (marked ms) (λ j o. h.kept j ((start.1 j (opposed_some j o)).1 o)) (λ i j m r. h.closed i j (omega (arith, rests_before rs ls i j r)) m r),
      ),
    )

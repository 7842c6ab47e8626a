-- What a line rests on, and which numbers needed lines have. Assumes nothing.
use Rattle.std.proofs.Common.{◌≡◌, ℕ, ◌+◌, ◌-◌, ◌<◌, ◌≤◌, Bool, true, ltb, leb, List, length, take, get_or, Some, None, Option, sym, ap, ◌∙◌, subst, ⊎_elim, arith}
use Rattle.std.proofs.lemmas.List.{get_or-take, length-take-le}
use Rattle.std.proofs.lemmas.Bool.{and_parts, and_from, ltb-true, leb-true, lt-ltb, le-leb}
use Rattle.memory.specs.declared.lines.Line.{Line}
use Rattle.memory.specs.declared.records.Record.{Record}
use Rattle.memory.specs.Reading.{Least}
use Rattle.inference.specs.Rules.{among}
use Rattle.finding.specs.Resting.{no_line, line_at, RestsOn, Needed}

-- tests that agree up to n have the same least number
pub least_as : (p q : ℕ → Bool) (n : ℕ) → ((k : ℕ) → 0 < k → k ≤ n → p k ≡ q k) → (r : Option ℕ) → Least p n r → Least q n r
least_as p q n same None none = λ k some le. sym (same k some le) ∙ none k some le
least_as p q n same (Some j) (some, within, passes, least) =
    (some, within, sym (same j some within) ∙ passes, λ k more lt. sym (same k more (omega arith)) ∙ least k more lt)

pub line_before : (ls : List Line) (n k : ℕ) → 0 < k → k ≤ n → line_at (take n ls) k ≡ line_at ls k
line_before ls n k some le = get_or-take n ls (k - 1) no_line (omega arith)

-- q asks something of the line at an index and one before it
pub first_before : (q : Line → Line → Bool) (ls : List Line) (i : ℕ) (r : Option ℕ) → i < length ls → Least (λ k. q (get_or ls i no_line) (line_at (take i ls) k)) (length (take i ls)) r → Least (λ k. q (line_at ls (i + 1)) (line_at ls k)) (i + 1 - 1) r
first_before q ls i r lt h =
    let here : i + 1 - 1 ≡ i = omega arith in
    let l = get_or ls i no_line in
    let cut = subst (λ n. Least (λ k. q l (line_at (take i ls) k)) n r) (length-take-le i ls (omega arith)) h in
    let whole = least_as (λ k. q l (line_at (take i ls) k)) (λ k. q l (line_at ls k)) i (λ k some le. ap (q l) (line_before ls i k some le)) r cut in
    subst (λ n. Least (λ k. q (get_or ls n no_line) (line_at ls k)) n r) (sym here) whole

-- what a line rests on stands before it
pub rests_before : (rs : List Record) (ls : List Line) (i j : ℕ) → RestsOn rs ls i j → (0 < j) × (j ≤ i - 1)
rests_before rs ls i j r = ⊎_elim (λ h. (h.0, h.1)) (λ h. (h.0, h.1)) r

-- the needed lines are lines of the list
pub needed_within : (rs : List Record) (ls : List Line) (k : ℕ) → Needed rs ls k → (0 < k) × (k ≤ length ls)
needed_within rs ls k needed =
    let n : ℕ = length ls in
    let is_among : (j : ℕ) → 0 < j → j ≤ n → among n j ≡ true = λ j some le. and_from (ltb 0 j) (leb j n) (lt-ltb 0 j some) (le-leb j n le) in
    let among_is : (j : ℕ) → among n j ≡ true → (0 < j) × (j ≤ n) = λ j e. let p = and_parts (ltb 0 j) (leb j n) e in (ltb-true 0 j p.0, leb-true j n p.1) in
    among_is k (needed (among n)
    (λ j o.
    ⊎_elim (λ e. is_among j (omega (arith, e, o.1.0, o.1.1)) (omega (arith, e))) (λ e. is_among j (omega (arith, e, o.1.0)) (omega (arith, e, o.1.1))) o.2)
    (λ i j m r. let w = rests_before rs ls i j r in is_among j w.0 (omega (arith, w.1, (among_is i m).1))))

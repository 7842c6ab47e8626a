-- Columns stand under each other: the cells of a column are equally wide in all rows.
use Rattle.std.proofs.Common.{cond, ◌≡◌, ℕ, zero, suc, ◌+◌, ◌-◌, ◌≤◌, List, [], ◌∷◌, ◌++◌, map, fold, refl, ◌∙◌, ap, arith}
use Rattle.std.specs.List.{All, flat_map}
use Rattle.std.proofs.lemmas.List.{append-nil}
use Rattle.std.proofs.lemmas.List.Elements.{All-nil, All-cons, All-weaker}
use Rattle.std.proofs.lemmas.List.Sums.{sum_by-append}
use Rattle.tables.specs.declared.forms.Form.TheVariants as form
use Rattle.tables.specs.declared.rows.Row.{Row}
use Rattle.tables.specs.Rows.{cells, headings}
use Rattle.tables.specs.Texts.{shown}
use Rattle.tables.specs.Forms.{line_in, aligned_in, shown_rows, InColumns}
use Rattle.tables.specs.Widths.{begins_char, width, wider, Side, to_left, to_right, sides, spaces, filled, filled_by, fitted}

width_append : (xs ys : List ℕ) → width (xs ++ ys) ≡ width xs + width ys
width_append xs ys = sum_by-append (λ b. cond (begins_char b) 1 0) xs ys

width_spaces : (n : ℕ) → width (spaces n) ≡ n
width_spaces zero = refl
width_spaces (suc n) = let e : 1 + n ≡ suc n = omega arith in width_append (32 ∷ []) (spaces n) ∙ (ap (λ k. 1 + k) (width_spaces n) ∙ e)

-- a cell that fits is as wide as its column
width_filled : (s : Side) (w : ℕ) (c : List ℕ) → width c ≤ w → width (filled s w c) ≡ w
width_filled to_left w c fits = width_append c (spaces (w - width c)) ∙ (ap (λ n. width c + n) (width_spaces (w - width c)) ∙ omega (arith, fits))
width_filled to_right w c fits = width_append (spaces (w - width c)) c ∙ (ap (λ n. n + width c) (width_spaces (w - width c)) ∙ omega (arith, fits))

-- as many of one list as of the other
Same : {A B : Type 0} → List A → List B → Type 0
Same [] [] = Unit {0}
Same [] (y ∷ ys) = ⊥
Same (x ∷ xs) [] = ⊥
Same (x ∷ xs) (y ∷ ys) = Same xs ys

-- the cells fit the widths, one by one
Fit : List ℕ → List (List ℕ) → Type 0
Fit [] [] = Unit {0}
Fit [] (c ∷ cs) = ⊥
Fit (w ∷ ws) [] = ⊥
Fit (w ∷ ws) (c ∷ cs) = (width c ≤ w) × Fit ws cs

-- no width is smaller
Grow : List ℕ → List ℕ → Type 0
Grow [] [] = Unit {0}
Grow [] (v ∷ vs) = ⊥
Grow (w ∷ ws) [] = ⊥
Grow (w ∷ ws) (v ∷ vs) = (w ≤ v) × Grow ws vs

grow_same : (ws : List ℕ) → Grow ws ws
unfolding Grow
grow_same [] = tt
grow_same (w ∷ ws) = (omega arith, grow_same ws)

grow_on : (us vs ws : List ℕ) → Grow us vs → Grow vs ws → Grow us ws
unfolding Grow
grow_on [] [] [] g h = tt
grow_on [] [] (w ∷ ws) g h = absurd h
grow_on [] (v ∷ vs) ws g h = absurd g
grow_on (u ∷ us) [] ws g h = absurd g
grow_on (u ∷ us) (v ∷ vs) [] g h = absurd h
grow_on (u ∷ us) (v ∷ vs) (w ∷ ws) g h = (omega (arith, g.0, h.0), grow_on us vs ws g.1 h.1)

grow_wider : (ws : List ℕ) (cs : List (List ℕ)) → Grow ws (wider ws cs)
unfolding Grow
grow_wider [] cs = tt
grow_wider (w ∷ ws) [] = (omega arith, grow_same ws)
grow_wider (w ∷ ws) (c ∷ cs) = (omega arith, grow_wider ws cs)

grow_all : (rows : List (List (List ℕ))) (ws : List ℕ) → Grow ws (fold wider ws rows)
grow_all [] ws = grow_same ws
grow_all (r ∷ rows) ws = grow_on ws (wider ws r) (fold wider (wider ws r) rows) (grow_wider ws r) (grow_all rows (wider ws r))

fit_wider : (ws : List ℕ) (cs : List (List ℕ)) → Same ws cs → Fit (wider ws cs) cs
unfolding Same Fit
fit_wider [] [] s = tt
fit_wider [] (c ∷ cs) s = absurd s
fit_wider (w ∷ ws) [] s = absurd s
fit_wider (w ∷ ws) (c ∷ cs) s = (omega arith, fit_wider ws cs s)

fit_more : (ws vs : List ℕ) (cs : List (List ℕ)) → Fit ws cs → Grow ws vs → Fit vs cs
unfolding Fit Grow
fit_more [] [] [] f g = tt
fit_more [] [] (c ∷ cs) f g = absurd f
fit_more [] (v ∷ vs) cs f g = absurd g
fit_more (w ∷ ws) [] cs f g = absurd g
fit_more (w ∷ ws) (v ∷ vs) [] f g = absurd f
fit_more (w ∷ ws) (v ∷ vs) (c ∷ cs) f g = (omega (arith, f.0, g.0), fit_more ws vs cs f.1 g.1)

same_wider : {A : Type 0} → (ws : List ℕ) (cs : List (List ℕ)) (ds : List A) → Same ws ds → Same (wider ws cs) ds
unfolding Same
same_wider [] cs [] s = tt
same_wider [] cs (d ∷ ds) s = absurd s
same_wider (w ∷ ws) cs [] s = absurd s
same_wider (w ∷ ws) [] (d ∷ ds) s = s
same_wider (w ∷ ws) (c ∷ cs) (d ∷ ds) s = same_wider ws cs ds s

filled_widths : (ss : List Side) (ws : List ℕ) (cs : List (List ℕ)) → Same ws ss → Fit ws cs → map width (filled_by ss ws cs) ≡ ws
unfolding Same Fit
filled_widths [] [] [] s f = refl
filled_widths [] [] (c ∷ cs) s f = absurd f
filled_widths [] (w ∷ ws) cs s f = absurd s
filled_widths (x ∷ ss) [] cs s f = absurd s
filled_widths (x ∷ ss) (w ∷ ws) [] s f = absurd f
filled_widths (x ∷ ss) (w ∷ ws) (c ∷ cs) s f = ap (λ v. v ∷ map width (filled_by ss ws cs)) (width_filled x w c f.0) ∙ ap (λ vs. w ∷ vs) (filled_widths ss ws cs s f.1)

same_as : {A B : Type 0} → (ws : List ℕ) (xs : List A) (ys : List B) → Same ws xs → Same xs ys → Same ws ys
unfolding Same
same_as [] [] [] s t = tt
same_as [] [] (y ∷ ys) s t = absurd t
same_as [] (x ∷ xs) ys s t = absurd s
same_as (w ∷ ws) [] ys s t = absurd s
same_as (w ∷ ws) (x ∷ xs) [] s t = absurd t
same_as (w ∷ ws) (x ∷ xs) (y ∷ ys) s t = same_as ws xs ys s t

same_all : (rows : List (List (List ℕ))) (ws : List ℕ) → Same ws sides → Same (fold wider ws rows) sides
same_all [] ws s = s
same_all (r ∷ rows) ws s = same_all rows (wider ws r) (same_wider ws r sides s)

-- a row has as many cells as there are columns
eight : (r : Row) → Same sides (map shown (cells r))
unfolding Same
eight r = tt

fits_all : (rs : List Row) (ws : List ℕ) → Same ws sides → All (Fit (fold wider ws (shown_rows (map cells rs)))) (shown_rows (map cells rs))
fits_all [] ws s = All-nil (Fit ws)
fits_all (r ∷ rs) ws s =
    let c = map shown (cells r) in
    let rest = shown_rows (map cells rs) in
    let all = fold wider (wider ws c) rest in
    All-cons (Fit all) c rest (fit_more (wider ws c) all c (fit_wider ws c (same_as ws sides c s (eight r))) (grow_all rest (wider ws c))) (fits_all rs (wider ws c) (same_wider ws c sides s))

none : List ℕ
none = 0 ∷ 0 ∷ 0 ∷ 0 ∷ 0 ∷ 0 ∷ 0 ∷ 0 ∷ []

none_same : Same none sides
unfolding Same none
none_same = tt

headings_same : Same none headings
unfolding Same none
headings_same = tt

-- an aligned table stands in columns
pub columns : (rs : List Row) → InColumns (headings ∷ shown_rows (map cells rs)) (aligned_in headings (shown_rows (map cells rs)))
unfolding none
columns rs =
    let rows = shown_rows (map cells rs) in
    let first = wider none headings in
    let ws = fold wider first rows in
    let same : Same ws sides = same_all rows first (same_wider none headings sides none_same) in
    let fit = fit_more first ws headings (fit_wider none headings headings_same) (grow_all rows first) in (
      ws,
      ap (λ l. line_in form.Aligned (fitted ws headings) ++ l) (append-nil (flat_map (line_in form.Aligned) (map (fitted ws) rows))),
      All-cons (λ row. map width (fitted ws row) ≡ ws) headings rows (filled_widths sides ws headings same fit)
          (All-weaker (Fit ws) (λ row. map width (fitted ws row) ≡ ws) (λ row f. filled_widths sides ws row same f) rows (fits_all rs first (same_wider none headings sides none_same))),
    )

-- No legal order is passed by. Assumes nothing.
use Rattle.std.proofs.Common.{◌≡◌, ℕ, ◌+◌, ◌<◌, ◌≤◌, ◌⊎◌, List, [], ◌∷◌, ◌++◌, length, get_or, take, Some, None, Option, sym, refl, ap, ◌∙◌, subst, ap₂, subst₂, inl, inr, arith, take_at, length-append}
use Rattle.std.proofs.lemmas.List.{get_or_at, length_push}
use Rattle.std.proofs.lemmas.Bool.{cases_eq}
use Rattle.memory.specs.declared.lines.Line.{Line}
use Rattle.memory.specs.Legal.{Legal}
use Rattle.memory.specs.Runs.{Run}
use Rattle.inference.specs.Worth.{Holds}
use Rattle.search.specs.Placing.{Placeable, Standing, Above, Takes}
use Rattle.search.proofs.Built.{legal_placeable}

-- the order is still to come, in lexicographic order: where it first differs it has a larger record, or it goes on with one above the mark
abbrev pub Ahead : List ℕ → Option ℕ → List ℕ → Type 0
Ahead [] mark [] = ⊥
Ahead [] mark (x ∷ rest) = Above mark x
Ahead (p ∷ placed) mark [] = ⊥
Ahead (p ∷ placed) mark (x ∷ rest) = (p < x) ⊎ ((p ≡ x) × Ahead placed mark rest)

-- at first every order is that has a record
pub ahead_first : (order : List ℕ) → 0 < length order → Ahead [] None order
ahead_first [] some = absurd (omega arith)
ahead_first (x ∷ rest) some = tt

-- record k is placed, where an order that goes on from the placed ones is still to come
onto :
    (placed : List ℕ) (mark : Option ℕ) (k : ℕ) (order : List ℕ) → ((x : ℕ) (rest : List ℕ) → order ≡ placed ++ x ∷ rest → Above mark x → Ahead (k ∷ []) None (x ∷ rest)) →
    Ahead placed mark order → Ahead (placed ++ k ∷ []) None order
onto [] mark k [] h a = a
onto [] mark k (x ∷ rest) h a = h x rest refl a
onto (p ∷ placed) mark k [] h a = a
onto (p ∷ placed) mark k (x ∷ rest) h (inl lt) = inl lt
onto (p ∷ placed) mark k (x ∷ rest) h (inr (e, a)) = inr (e, onto placed mark k rest (λ y more q. h y more (ap₂ (λ z zs. z ∷ zs) (sym e) q)) a)

-- the last is taken back, where no order goes on from the placed ones
back :
    (front : List ℕ) (last : ℕ) (mark : Option ℕ) (order : List ℕ) → ((x : ℕ) (rest : List ℕ) → order ≡ (front ++ last ∷ []) ++ x ∷ rest → Above mark x → ⊥) →
    Ahead (front ++ last ∷ []) mark order → Ahead front (Some last) order
back [] last mark [] h a = a
back [] last mark (x ∷ rest) h (inl lt) = lt
back [] last mark (x ∷ []) h (inr (e, a)) = absurd a
back [] last mark (x ∷ y ∷ rest) h (inr (e, a)) = absurd (h y rest (ap (λ z. z ∷ y ∷ rest) (sym e)) a)
back (p ∷ front) last mark [] h a = a
back (p ∷ front) last mark (x ∷ rest) h (inl lt) = inl lt
back (p ∷ front) last mark (x ∷ rest) h (inr (e, a)) = inr (e, back front last mark rest (λ y more q. h y more (ap₂ (λ z zs. z ∷ zs) (sym e) q)) a)

-- a legal order in which the listed lines hold
module _ (R : Run) (ls : List Line) (order : List ℕ) (legal : Legal R order) (hold : Holds ls order) where
  -- what it goes on with may be placed
  goes_on : (placed : List ℕ) (x : ℕ) (rest : List ℕ) → order ≡ placed ++ x ∷ rest → Placeable R ls placed x
  goes_on placed x rest e =
      let n : ℕ = length placed in
      let front : take n order ≡ placed = ap (take n) e ∙ take_at placed (x ∷ rest) n refl in
      let next : get_or order n 0 ≡ x = ap (λ o. get_or o n 0) e ∙ get_or_at placed x rest 0 n refl in
      subst₂ (Placeable R ls) front next (legal_placeable R ls order legal hold n (omega (arith, ap length e, length-append placed (x ∷ rest))))

  module _ (s : Standing) (a : Ahead s.placed s.mark order) where
    pub ahead_placed : (k : ℕ) → Takes R ls s (Some k) → (length s.placed + 1 ≡ R.size → ⊥) → Ahead (s.placed ++ k ∷ []) None order
    ahead_placed k t more = onto s.placed s.mark k order (λ x rest e above. go x rest e (t.2 x (goes_on s.placed x rest e) above) (cases_eq k x)) a
      where
        go : (x : ℕ) (rest : List ℕ) → order ≡ s.placed ++ x ∷ rest → k ≤ x → (k ≡ x) ⊎ (k ≡ x → ⊥) → Ahead (k ∷ []) None (x ∷ rest)
        go x rest e le (inr ne) = inl (omega arith)
        go x [] e le (inl q) = absurd (more (sym (length_push s.placed x) ∙ ap length (sym e) ∙ legal.long))
        go x (y ∷ rest) e le (inl q) = inr (q, tt)

    module _ (none : Takes R ls s None) where
      pub ahead_taken_back : (front : List ℕ) (last : ℕ) → s.placed ≡ front ++ last ∷ [] → Ahead front (Some last) order
      ahead_taken_back front last e =
          back front last s.mark order (λ x rest q above. none x (goes_on s.placed x rest (q ∙ ap (λ p. p ++ x ∷ rest) (sym e))) above) (subst (λ p. Ahead p s.mark order) e a)

      pub ahead_exhausted : s.placed ≡ [] → ⊥
      ahead_exhausted e = go order refl (subst (λ p. Ahead p s.mark order) e a)
        where
          go : (o : List ℕ) → order ≡ o → Ahead [] s.mark o → ⊥
          go [] q b = b
          go (x ∷ rest) q above = none x (goes_on s.placed x rest (q ∙ ap (λ p. p ++ x ∷ rest) (sym e))) above

-- What is known of an entry that was admitted. Assumes nothing.
use Rattle.std.proofs.Common.{◌≡◌, ℕ, zero, suc, ◌<◌, Bool, true, false, cond, ◌&&◌, eqb, ltb, List, [], ◌∷◌, ◌++◌, take, is_ok, Some, None, Ok, Err, Option, Result, sym, refl, ap, ◌∙◌, subst, append_assoc, append-nil, arith}
use Rattle.std.proofs.lemmas.Bool.{and_parts, and_from, eqb-true, lt-ltb}
use Rattle.memory.specs.declared.kinds.Kind.{Kind}
use Rattle.memory.specs.declared.kinds.Kind.TheVariants.{Load, Store, Fence}
use Rattle.memory.specs.declared.records.Entry.{Entry}
use Rattle.memory.specs.declared.records.Record.{Record}
use Rattle.memory.specs.declared.refusals.Refusal.{Refusal}
use Rattle.memory.specs.Kinds.{kind_at, kind_number}
use Rattle.memory.specs.Admission.{record_of, logged, full, stranger, blank_entry, beyond, backward, twin, judge_kind, judgement, admits, sized}

-- a test that refuses has not refused
passed : (b : Bool) (x : Refusal) (y : Result Record Refusal) (r : Record) → cond b (Err x) y ≡ Ok r → (b ≡ false) × (y ≡ Ok r)
passed true x y r e = let z : ◌≡◌ {A = ℕ} 0 1 = cc in absurd (omega arith)
passed false x y r e = (refl, e)

-- an entry of kind k that was admitted as r passed every test
pub record Judged (p : ℕ) (rs : List Record) (e : Entry) (k : Kind) (r : Record) : Type 0 where
  pub room : full rs ≡ false
  pub local : stranger p e ≡ false
  pub kind : kind_at e.kind ≡ Some k
  pub filled : blank_entry k e ≡ false
  pub early : beyond e ≡ false
  pub onward : backward rs e ≡ false
  pub single : twin k rs e ≡ false
  pub is : record_of k e ≡ r

pub judged : (p : ℕ) (rs : List Record) (e : Entry) (r : Record) → judgement p rs e ≡ Ok r → (k : Kind) × Judged p rs e k r
judged p rs e r h =
    let a = passed (full rs) _ _ r h in
    let b = passed (stranger p e) _ _ r a.1 in
    by_kind a.0 b.0 (kind_at e.kind) refl b.1
  where
    by_kind : full rs ≡ false → stranger p e ≡ false → (o : Option Kind) → kind_at e.kind ≡ o → judge_kind o rs e ≡ Ok r → (k : Kind) × Judged p rs e k r
    by_kind a b None o h = let z : ◌≡◌ {A = ℕ} 0 1 = cc in absurd (omega arith)
    by_kind a b (Some k) o h =
        let c = passed (blank_entry k e) _ _ r h in
        let d = passed (beyond e) _ _ r c.1 in
        let f = passed (backward rs e) _ _ r d.1 in
        let g = passed (twin k rs e) _ _ r f.1 in
        let same : record_of k e ≡ r = let i = g.1 in cc in
        (k, record { room = a; local = b; kind = o; filled = c.0; early = d.0; onward = f.0; single = g.0; is = same })

-- the number of a kind is the one that it was found by
number_back : (n : ℕ) (k : Kind) → kind_at n ≡ Some k → kind_number k ≡ n
number_back n k h = go (eqb n 1) (eqb n 2) (eqb n 3) refl refl refl h
  where
    go : (a b c : Bool) → eqb n 1 ≡ a → eqb n 2 ≡ b → eqb n 3 ≡ c → cond a (Some Load) (cond b (Some Store) (cond c (Some Fence) None)) ≡ Some k → kind_number k ≡ n
    go true b c x y z h = let e : Load ≡ k = cc in sym (ap kind_number e) ∙ sym (eqb-true n 1 x)
    go false true c x y z h = let e : Store ≡ k = cc in sym (ap kind_number e) ∙ sym (eqb-true n 2 y)
    go false false true x y z h = let e : Fence ≡ k = cc in sym (ap kind_number e) ∙ sym (eqb-true n 3 z)
    go false false false x y z h = let q : ◌≡◌ {A = ℕ} 0 1 = cc in absurd (omega arith)

-- an admitted entry is what its record was logged as
pub logged_back : (p : ℕ) (rs : List Record) (e : Entry) (r : Record) → judgement p rs e ≡ Ok r → logged r ≡ e
logged_back p rs e r h =
    let j = judged p rs e r h in
    let n = number_back e.kind j.0 j.1.kind in
    ap logged (sym j.1.is) ∙ (λ i. record { processor = e.processor; kind = n i; address = e.address; value = e.value; enter = e.enter; commit = e.commit })

-- the record of a lawful entry is the one that was logged
same_record : (p : ℕ) (rs : List Record) (r : Record) (x : Record) → judgement p rs (logged r) ≡ Ok x → x ≡ r
same_record p rs r x h =
    let j = judged p rs (logged r) x h in
    let k : r.kind ≡ j.0 = some_same (sym (back r.kind) ∙ j.1.kind) in
    sym j.1.is ∙ ap (λ k. record_of k (logged r)) (sym k)
  where
    back : (k : Kind) → kind_at (kind_number k) ≡ Some k
    back Load = refl
    back Store = refl
    back Fence = refl

    some_same : {a b : Kind} → Some a ≡ Some b → a ≡ b
    some_same e = cc

pub admits_again : (p : ℕ) (rs : List Record) (r : Record) → is_ok (judgement p rs (logged r)) ≡ true → judgement p rs (logged r) ≡ Ok r
admits_again p rs r ok = go (judgement p rs (logged r)) refl ok
  where
    go : (j : Result Record Refusal) → judgement p rs (logged r) ≡ j → is_ok j ≡ true → judgement p rs (logged r) ≡ Ok r
    go (Ok x) is ok = is ∙ ap Ok (same_record p rs r x is)
    go (Err x) is ok = let z : ◌≡◌ {A = ℕ} 0 1 = cc in absurd (omega arith)

-- a lawful run goes on with a record that was admitted to it
admits_push : (p : ℕ) (rs more : List Record) (r : Record) → admits p rs more ≡ true → is_ok (judgement p (rs ++ more) (logged r)) ≡ true → admits p rs (more ++ r ∷ []) ≡ true
admits_push p rs [] r h j = and_from (is_ok (judgement p rs (logged r))) true (subst (λ xs. is_ok (judgement p xs (logged r)) ≡ true) (append-nil rs) j) refl
admits_push p rs (x ∷ more) r h j =
    let both = and_parts (is_ok (judgement p rs (logged x))) (admits p (rs ++ x ∷ []) more) h in
    and_from (is_ok (judgement p rs (logged x))) _ both.0 (admits_push p (rs ++ x ∷ []) more r both.1 (subst (λ xs. is_ok (judgement p xs (logged r)) ≡ true) (sym (append_assoc rs (x ∷ []) more)) j))

-- a lawful run goes on with those that continue it
pub admits_join : (p : ℕ) (rs ks more : List Record) → admits p rs ks ≡ true → admits p (rs ++ ks) more ≡ true → admits p rs (ks ++ more) ≡ true
admits_join p rs [] more h j = subst (λ xs. admits p xs more ≡ true) (append-nil rs) j
admits_join p rs (x ∷ ks) more h j =
    let both = and_parts (is_ok (judgement p rs (logged x))) (admits p (rs ++ x ∷ []) ks) h in
    and_from (is_ok (judgement p rs (logged x))) _ both.0 (admits_join p (rs ++ x ∷ []) ks more both.1 (subst (λ xs. admits p xs more ≡ true) (sym (append_assoc rs (x ∷ []) ks)) j))

-- and the first of lawful records are a lawful run
pub admits_front : (p : ℕ) (rs ks : List Record) (n : ℕ) → admits p rs ks ≡ true → admits p rs (take n ks) ≡ true
admits_front p rs ks zero h = refl
admits_front p rs [] (suc n) h = refl
admits_front p rs (x ∷ ks) (suc n) h =
    let both = and_parts (is_ok (judgement p rs (logged x))) (admits p (rs ++ x ∷ []) ks) h in
    and_from (is_ok (judgement p rs (logged x))) _ both.0 (admits_front p (rs ++ x ∷ []) ks n both.1)

pub admits_more : (p : ℕ) (rs : List Record) (e : Entry) (r : Record) → admits p [] rs ≡ true → judgement p rs e ≡ Ok r → admits p [] (rs ++ r ∷ []) ≡ true
admits_more p rs e r h j = admits_push p [] rs r h (ap is_ok (ap (judgement p rs) (logged_back p rs e r j) ∙ j))

sized_push : (rs : List Record) (r : Record) → sized rs ≡ true → r.address < 4294967296 → r.value < 18446744073709551616 → sized (rs ++ r ∷ []) ≡ true
sized_push [] r h a v = and_from (ltb r.address 4294967296 && ltb r.value 18446744073709551616) true (and_from (ltb r.address 4294967296) _ (lt-ltb _ _ a) (lt-ltb _ _ v)) refl
sized_push (x ∷ rs) r h a v = let both = and_parts (ltb x.address 4294967296 && ltb x.value 18446744073709551616) (sized rs) h in and_from (ltb x.address 4294967296 && ltb x.value 18446744073709551616) _ both.0 (sized_push rs r both.1 a v)

pub sized_more : (p : ℕ) (rs : List Record) (e : Entry) (r : Record) → sized rs ≡ true → judgement p rs e ≡ Ok r → e.address < 4294967296 → e.value < 18446744073709551616 → sized (rs ++ r ∷ []) ≡ true
sized_more p rs e r h j a v =
    let is = logged_back p rs e r j in
    sized_push rs r h (subst (λ (x : Entry). x.address < 4294967296) (sym is) a) (subst (λ (x : Entry). x.value < 18446744073709551616) (sym is) v)

-- The rules are sound: what follows holds in every legal order, and follows from more records too. Assumes nothing.
use Rattle.std.proofs.Common.{◌≡◌, ℕ, ◌-◌, ◌<◌, ◌≤◌, Bool, true, false, not, ◌&&◌, eqb, ltb, List, [], ◌∷◌, ◌++◌, length, sym, refl, ◌∙◌, subst, ⊎_elim, append_assoc, append-nil, arith, length-append}
use Rattle.std.proofs.lemmas.List.{get_or_append_left}
use Rattle.std.proofs.lemmas.Bool.{and_parts, and_from, or_cases, eq-eqb, ne_eqb, eqb-true, eqb-false, not-true, not_from_false, cases_lt, both_ways}
use Rattle.memory.specs.declared.lines.Line.{Line}
use Rattle.memory.specs.declared.lines.Rule.{Rule}
use Rattle.memory.specs.declared.lines.Rule.TheVariants.{Clock, Model, ReadsFrom, InitialRead, Coherence, FromRead, Transitive}
use Rattle.memory.specs.declared.records.Record.{Record}
use Rattle.memory.specs.Admission.{admits}
use Rattle.memory.specs.Lawful.{Lawful}
use Rattle.memory.specs.Legal.{writes, Legal, NoOrder}
use Rattle.memory.specs.Reading.{reads_from}
use Rattle.memory.specs.Runs.{Setting, Run, Known, run_of, keeps, blank, at}
use Rattle.memory.proofs.Lawful.{lawful_all}
use Rattle.inference.specs.Rules.{known, has_pair, listed, reads, rivals, overwritten, by_rule, names_third, third_fits, follows}
use Rattle.inference.specs.Worth.{Holds, Stays}
use Rattle.inference.proofs.Follows.{known_is, is_known, following}
use Rattle.inference.proofs.Listed.{listed_push}
use Rattle.inference.proofs.First.{some_at, some_from}
use Rattle.inference.proofs.Places.{place, From, Ordered, ordered, before}

-- each line follows from the records and the lines before it
abbrev pub founded : Run → List Line → List Line → Bool
founded R before [] = true
founded R before (l ∷ ls) = follows R before l && founded R (before ++ l ∷ []) ls

founded_on : (R : Run) (before ls : List Line) (l : Line) → founded R before ls ≡ true → follows R (before ++ ls) l ≡ true → founded R before (ls ++ l ∷ []) ≡ true
founded_on R before [] l h f = and_from (follows R before l) true (subst (λ ks. follows R ks l ≡ true) (append-nil before) f) refl
founded_on R before (k ∷ ls) l h f =
    let p = and_parts (follows R before k) (founded R (before ++ k ∷ []) ls) h in
    and_from (follows R before k) _ p.0 (founded_on R (before ++ k ∷ []) ls l p.1 (subst (λ ks. follows R ks l ≡ true) (sym (append_assoc before (k ∷ []) ls)) f))

pub founded_push : (R : Run) (ls : List Line) (l : Line) → founded R [] ls ≡ true → follows R ls l ≡ true → founded R [] (ls ++ l ∷ []) ≡ true
founded_push R ls l h f = founded_on R [] ls l h f

-- what follows from records follows from them and any more
module _ (S : Setting) (rs more : List Record) where
  abbrev fewer : Run
  fewer = run_of S rs

  abbrev longer : Run
  longer = run_of S (rs ++ more)

  same : (a : ℕ) → Known fewer a → at (rs ++ more) a ≡ at rs a
  same a k = get_or_append_left rs more blank (a - 1) (omega (arith, k.some, k.within))

  known_on : (a : ℕ) → Known fewer a → Known longer a
  known_on a k = record { some = k.some; within = omega (arith, k.within, length-append rs more) }

  reads_on : (x w : ℕ) → Known fewer x → Known fewer w → reads longer x w ≡ reads fewer x w
  reads_on x w kx kw = λ i. reads_from (same x kx i) (same w kw i)

  rivals_on : (v w : ℕ) → Known fewer v → Known fewer w → rivals longer v w ≡ rivals fewer v w
  rivals_on v w kv kw = cc (same v kv, same w kw)

  rule_on : (ls : List Line) (r : Rule) (a b c : ℕ) → Known fewer a → Known fewer b → third_fits fewer (names_third r) c ≡ true → by_rule fewer ls r a b c ≡ true → by_rule longer ls r a b c ≡ true
  rule_on ls Clock a b c ka kb t g = cc (same a ka, same b kb, g)
  rule_on ls Model a b c ka kb t g = (λ i. ltb a b && keeps S (same a ka i) (same b kb i)) ∙ g
  rule_on ls ReadsFrom a b c ka kb t g = reads_on b a kb ka ∙ g
  rule_on ls InitialRead a b c ka kb t g = cc (same a ka, same b kb, g)
  rule_on ls Coherence a b c ka kb t g = cc (g, reads_on c b (known_is fewer c t) kb, rivals_on a b ka kb)
  rule_on ls FromRead a b c ka kb t g =
      let s = some_at (overwritten fewer ls a b) (length rs) g in
      let w : ℕ = s.0 in
      let kw : Known fewer w = record { some = s.1; within = s.2 } in
      some_from (overwritten longer ls a b) (length (rs ++ more)) w s.1 (known_on w kw).within (cc (s.3, reads_on a w ka kw, rivals_on w b kw kb))
  rule_on ls Transitive a b c ka kb t g = g

  third_on : (b : Bool) (c : ℕ) → third_fits fewer b c ≡ true → third_fits longer b c ≡ true
  third_on true c t = is_known longer c (known_on c (known_is fewer c t))
  third_on false c t = t

  follows_on : (ls : List Line) (l : Line) → follows fewer ls l ≡ true → follows longer ls l ≡ true
  follows_on ls l e =
      let t = following fewer ls l e in
      and_from (known longer l.first) _ (is_known longer _ (known_on _ t.first))
      (and_from (known longer l.second) _ (is_known longer _ (known_on _ t.second))
      (and_from (not (eqb l.first l.second)) _ (not_from_false _ (ne_eqb _ _ t.apart))
      (and_from (third_fits longer (names_third l.rule) l.third) _ (third_on (names_third l.rule) l.third t.third)
      (rule_on ls l.rule l.first l.second l.third t.first t.second t.third t.given))))

  all_on : (before ls : List Line) → founded fewer before ls ≡ true → founded longer before ls ≡ true
  all_on before [] h = refl
  all_on before (l ∷ ls) h =
      let p = and_parts (follows fewer before l) (founded fewer (before ++ l ∷ []) ls) h in
      and_from (follows longer before l) _ (follows_on before l p.0) (all_on (before ++ l ∷ []) ls p.1)

pub follows_stays : (S : Setting) (rs : List Record) (ls : List Line) (l : Line) → Stays S rs ls l
follows_stays S rs ls l more e = follows_on S rs more ls l e

pub founded_stays : (S : Setting) (rs more : List Record) (ls : List Line) → founded (run_of S rs) [] ls ≡ true → founded (run_of S (rs ++ more)) [] ls ≡ true
founded_stays S rs more ls h = all_on S rs more [] ls h

-- the tests of the rules, as facts
record Reads (R : Run) (x w : ℕ) : Type 0 where
  load : R.load x ≡ true
  nonzero : R.value x ≡ 0 → ⊥
  to_it : writes R w (R.addr x) ≡ true
  value : R.value w ≡ R.value x

reads_is : (R : Run) (x w : ℕ) → reads R x w ≡ true → Reads R x w
reads_is R x w e =
    let p = and_parts (R.load x) _ e in
    let q = and_parts (not (eqb (R.value x) 0)) _ p.1 in
    let r = and_parts (R.store w) _ q.1 in
    let s = and_parts (eqb (R.addr w) (R.addr x)) _ r.1 in
    record { load = p.0; nonzero = eqb-false _ _ (not-true _ q.0); to_it = and_from (R.store w) _ r.0 s.0; value = eqb-true _ _ s.1 }

record Rivals (R : Run) (v w : ℕ) : Type 0 where
  one : R.store v ≡ true
  other : R.store w ≡ true
  addr : R.addr v ≡ R.addr w

rivals_is : (R : Run) (v w : ℕ) → rivals R v w ≡ true → Rivals R v w
rivals_is R v w e =
    let p = and_parts (R.store v) _ e in
    let q = and_parts (R.store w) _ p.1 in
    record { one = p.0; other = q.0; addr = eqb-true _ _ (and_parts (eqb (R.addr v) (R.addr w)) _ q.1).0 }

-- no store writes 0, and no two write the same value to the same address
record StoresDiffer (R : Run) : Type 0 where
  written : (w : ℕ) → Known R w → R.store w ≡ true → R.value w ≡ 0 → ⊥
  apart : (v w : ℕ) → Known R v → Known R w → R.store v ≡ true → R.store w ≡ true → R.addr v ≡ R.addr w → R.value v ≡ R.value w → v ≡ w

stores_differ : (S : Setting) (p : ℕ) (rs : List Record) → Lawful p rs → StoresDiffer (run_of S rs)
stores_differ S p rs law = record {
  written = λ w k s z. law.written (w - 1) (omega (arith, k.some, k.within)) s z;
  apart = λ v w kv kw sv sw a x.
      omega (arith, kv.some, kw.some, law.apart (v - 1) (w - 1) (omega (arith, kv.some, kv.within)) (omega (arith, kw.some, kw.within)) sv sw a x);
}

-- two records, the first at the smaller place
record Stand (R : Run) (pos : ℕ → ℕ) (a b : ℕ) : Type 0 where
  first : Known R a
  second : Known R b
  below : pos a < pos b

module _ (R : Run) (differ : StoresDiffer R) (pos : ℕ → ℕ) (o : Ordered R pos) where
  -- what a load reads is the last store before it
  from : (x w : ℕ) → Known R x → Known R w → Reads R x w → From R pos x w
  from x w kx kw r =
      ⊎_elim (λ f. absurd (r.nonzero f.initial))
      (λ f.
      let p = and_parts (R.store f.0) (eqb (R.addr f.0) (R.addr x)) f.1.to_it in
      let q = and_parts (R.store w) (eqb (R.addr w) (R.addr x)) r.to_it in
      subst (From R pos x) (differ.apart f.0 w f.1.known kw p.0 q.0 (eqb-true _ _ p.1 ∙ sym (eqb-true _ _ q.1)) (f.1.same ∙ sym r.value)) f.1)
      (o.reads x kx r.load)

  strict : (a b : ℕ) → Known R a → Known R b → (a ≡ b → ⊥) → pos a ≤ pos b → pos a < pos b
  strict a b ka kb ne le = let far : pos a ≡ pos b → ⊥ = λ e. ne (o.apart a b ka kb e) in omega arith

  -- a store to the address of w, which the load x reads, writes to the address of x
  to_same : (x w v : ℕ) → Reads R x w → R.store v ≡ true → R.addr v ≡ R.addr w → writes R v (R.addr x) ≡ true
  to_same x w v r s e = and_from (R.store v) _ s (eq-eqb _ _ (e ∙ eqb-true _ _ (and_parts (R.store w) (eqb (R.addr w) (R.addr x)) r.to_it).1))

  module _ (ls : List Line) (hold : (a b : ℕ) → listed ls a b ≡ true → Stand R pos a b) where
    rule_holds : (r : Rule) (a b c : ℕ) → Known R a → Known R b → (a ≡ b → ⊥) → third_fits R (names_third r) c ≡ true → by_rule R ls r a b c ≡ true → pos a < pos b
    rule_holds Clock a b c ka kb ne t g = o.clock a b ka kb g
    rule_holds Model a b c ka kb ne t g = o.model a b ka kb g
    rule_holds ReadsFrom a b c ka kb ne t g = (from b a kb ka (reads_is R b a g)).before
    rule_holds InitialRead a b c ka kb ne t g =
        let p = and_parts (R.load a) _ g in
        let q = and_parts (eqb (R.value a) 0) (writes R b (R.addr a)) p.1 in
        ⊎_elim (λ f. strict a b ka kb ne (f.none_yet b kb q.1))
        (λ f. absurd (differ.written f.0 f.1.known (and_parts (R.store f.0) _ f.1.to_it).0 (f.1.same ∙ eqb-true _ _ q.0)))
        (o.reads a ka p.0)
    rule_holds Coherence a b c ka kb ne t g =
        let p = and_parts (reads R c b) _ g in
        let q = and_parts (rivals R a b) (listed ls a c) p.1 in
        let r = reads_is R c b p.0 in
        let v = rivals_is R a b q.0 in
        strict a b ka kb ne ((from c b (known_is R c t) kb r).last a ka (to_same c b a r v.one v.addr) (hold a c q.1).below)
    rule_holds FromRead a b c ka kb ne t g =
        let s = some_at (overwritten R ls a b) R.size g in
        let w : ℕ = s.0 in
        let p = and_parts (reads R a w) _ s.3 in
        let q = and_parts (rivals R w b) (listed ls w b) p.1 in
        let kw : Known R w = record { some = s.1; within = s.2 } in
        let r = reads_is R a w p.0 in
        let v = rivals_is R w b q.0 in
        ⊎_elim (λ lt. absurd (omega (arith, (hold w b q.1).below, (from a w ka kw r).last b kb (to_same a w b r v.other (sym v.addr)) lt))) (λ le. strict a b ka kb ne le) (cases_lt (pos b) (pos a))
    rule_holds Transitive a b c ka kb ne t g = let p = and_parts (listed ls a c) (listed ls c b) g in omega (arith, (hold a c p.0).below, (hold c b p.1).below)

    line_holds : (l : Line) → follows R ls l ≡ true → (a b : ℕ) → listed (ls ++ l ∷ []) a b ≡ true → Stand R pos a b
    line_holds l e a b h =
        ⊎_elim (hold a b)
        (λ here.
        let q = and_parts (eqb l.first a) (eqb l.second b) here in
        let t = following R ls l e in
        let stand : Stand R pos l.first l.second = record { first = t.first; second = t.second; below = rule_holds l.rule l.first l.second l.third t.first t.second t.apart t.third t.given } in
        subst (λ y. Stand R pos a y) (eqb-true _ _ q.1) (subst (λ x. Stand R pos x l.second) (eqb-true _ _ q.0) stand))
        (or_cases (listed ls a b) (has_pair a b l) (sym (listed_push ls l a b) ∙ h))

  all_hold : (ks ls : List Line) → ((a b : ℕ) → listed ks a b ≡ true → Stand R pos a b) → founded R ks ls ≡ true → (a b : ℕ) → listed (ks ++ ls) a b ≡ true → Stand R pos a b
  all_hold ks [] hold e a b h = hold a b (subst (λ js. listed js a b ≡ true) (append-nil ks) h)
  all_hold ks (l ∷ ls) hold e a b h =
      let p = and_parts (follows R ks l) (founded R (ks ++ l ∷ []) ls) e in
      all_hold (ks ++ l ∷ []) ls (line_holds ks hold l p.0) p.1 a b (subst (λ js. listed js a b ≡ true) (sym (append_assoc ks (l ∷ []) ls)) h)

module _ (S : Setting) (p : ℕ) (rs : List Record) (adm : admits p [] rs ≡ true) (ls : List Line) (h : founded (run_of S rs) [] ls ≡ true) where
  stand : (order : List ℕ) → Legal (run_of S rs) order → (a b : ℕ) → listed ls a b ≡ true → Stand (run_of S rs) (place order) a b
  stand order legal =
      let R = run_of S rs in
      all_hold R (stores_differ S p rs (lawful_all p rs adm)) (place order) (ordered R order legal) [] ls (λ a b none. absurd (both_ways false refl none)) h

  -- each listed pair stands in every legal order as it is listed
  pub lines_hold : (order : List ℕ) → Legal (run_of S rs) order → Holds ls order
  lines_hold order legal a b ab = let s = stand order legal a b ab in before (run_of S rs) order legal a b s.first s.second s.below

  -- two opposed lines leave no legal order
  pub opposed_none : (a b : ℕ) → listed ls a b ≡ true → listed ls b a ≡ true → NoOrder (run_of S rs)
  opposed_none a b ab ba order legal = omega (arith, (stand order legal a b ab).below, (stand order legal b a ba).below)

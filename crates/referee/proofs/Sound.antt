-- What the referee accepts is true, and the lines that it lists are founded. Assumes nothing.
use Rattle.std.proofs.Common.{◌≡◌, ℕ, ◌+◌, Bool, true, false, cond, not, ◌&&◌, eqb, ltb, leb, List, [], ◌∷◌, ◌++◌, length, get_or, Some, None, Ok, Err, Option, Result, refl, sym, ap, ◌∙◌, subst, arith}
use Rattle.std.proofs.lemmas.Bool.{and_parts, eqb-true, ltb-true, leb-true}
use Rattle.std.proofs.lemmas.List.{nil_from_length}
use Rattle.memory.specs.declared.lines.Line.{Line}
use Rattle.memory.specs.declared.lines.Rule.{Rule}
use Rattle.memory.specs.declared.records.Record.{Record}
use Rattle.memory.specs.declared.verdicts.Verdict.{Verdict}
use Rattle.memory.specs.declared.verdicts.Verdict.TheVariants.{Order, Opposed, Orphan}
use Rattle.memory.specs.Admission.{admits}
use Rattle.memory.specs.Legal.{NoOrder}
use Rattle.memory.specs.Numbers.{rule_at}
use Rattle.memory.specs.Reading.{orphan, names_orphan}
use Rattle.memory.specs.Runs.{Run, Setting, run_of}
use Rattle.memory.proofs.Orphans.{orphan_none}
use Rattle.wire.specs.declared.faults.ByteFault.{ByteFault}
use Rattle.wire.specs.declared.faults.PaperFault.{PaperFault}
use Rattle.wire.specs.declared.faults.PaperFault.TheVariants.{Foreign}
use Rattle.wire.specs.declared.fields.PaperHead.{PaperHead}
use Rattle.wire.specs.declared.fields.Text.TheVariants.{Paper}
use Rattle.wire.specs.declared.fields.WrittenLine.{WrittenLine}
use Rattle.wire.specs.Fields.{Piece, whole, broken, pieces, Sort, head_field, line_field, order_field, orphan_field, end_field, Shown, fault_at, named, next_field, later, sort_of, paper_head_in, paper_head_content, written_line_of}
use Rattle.inference.specs.Next as next
use Rattle.inference.specs.Rules.{listed, follows}
use Rattle.inference.proofs.Sound.{founded, founded_push, opposed_none}
use Rattle.search.specs.Orders.{legal_order}
use Rattle.search.proofs.LegalOrders.{order_legal}
use Rattle.referee.specs.declared.papers.Claim.{Claim}
use Rattle.referee.specs.declared.papers.Claim.TheVariants as claim
use Rattle.referee.specs.Lines.{founded_by, founded_line, last_opposed}
use Rattle.referee.specs.Papers.{Judged, concluded, end_sort, end_due, order_sort, order_due, orphan_sort, orphan_due, line_founded, line_placed, line_read, lines_sort, lines_field, lines_due, head_fits, claim_by, claim_read, claim_sort, first_claim, judge_body, judge_paper}
use Rattle.referee.specs.Truth.{first_content, head_in, body_in, TrueWith, TrueOf}
use Rattle.referee.proofs.LastLines.{two_opposed}

-- a field that was read has this content
abbrev Has : List ℕ → Result Shown ByteFault → Type 0
Has c (Ok f) = f.content ≡ c
Has c (Err e) = Unit {0}

field_content : (at : ℕ) (ps : List Piece) → Has (first_content ps) (next_field Paper at ps)
field_content at [] = tt
field_content at (broken ∷ ps) = tt
field_content at (whole tag c ∷ ps) = by (sort_of Paper tag)
  where
    empty : (b : Bool) → eqb (length c) 0 ≡ b → Has c (cond b (Ok (record { sort = end_field; place = at; content = [] })) (Err (fault_at at)))
    empty true e = sym (nil_from_length c (eqb-true (length c) 0 e))
    empty false e = tt

    by : (s : Option Sort) → Has c (named s at c)
    by None = tt
    by (Some end_field) = empty (eqb (length c) 0) refl
    by (Some s) = refl

-- a content of one number
one_number : (c : List ℕ) → length c ≡ 1 → c ≡ get_or c 0 0 ∷ []
one_number [] e = cc
one_number (x ∷ c) e = ap (λ r. x ∷ r) (nil_from_length c (omega arith))

-- the number of the verdict that is claimed
abbrev number : Claim → ℕ
number claim.Order = 1
number claim.Opposed = 2
number claim.Orphan = 3

-- the content of a head that claims c, beside so many records
abbrev claiming : Setting → ℕ → ℕ → List ℕ
claiming S count n = paper_head_content (record { verdict = n; model = S.model_mark; clock = S.clock_mark; records = count })

-- a claim is read of such a content
abbrev Says : Setting → ℕ → List ℕ → Result Claim PaperFault → Type 0
Says S count c (Ok k) = c ≡ claiming S count (number k)
Says S count c (Err f) = Unit {0}

four_numbers : (c : List ℕ) → length c ≡ 4 → c ≡ paper_head_content (paper_head_in c)
four_numbers [] e = cc
four_numbers (w ∷ []) e = absurd (omega (arith, e))
four_numbers (w ∷ (x ∷ [])) e = absurd (omega (arith, e))
four_numbers (w ∷ (x ∷ (y ∷ []))) e = absurd (omega (arith, e))
four_numbers (w ∷ (x ∷ (y ∷ (z ∷ c)))) e = ap (λ r. w ∷ x ∷ y ∷ z ∷ r) (nil_from_length c (omega (arith, e)))

module _ (S : Setting) (count : ℕ) (f : Shown) where
  abbrev c : List ℕ
  c = f.content

  abbrev h : PaperHead
  h = paper_head_in c

  fitting : length c ≡ 4 → (k : Claim) → h.verdict ≡ number k → head_fits S count h ≡ true → c ≡ claiming S count (number k)
  fitting four k says fits =
      let model = and_parts (eqb h.model S.model_mark) (eqb h.clock S.clock_mark && eqb h.records count) fits in
      let clock = and_parts (eqb h.clock S.clock_mark) (eqb h.records count) model.1 in
      four_numbers c four
      ∙ ap (λ n. n ∷ h.model ∷ h.clock ∷ h.records ∷ []) says
      ∙ ap (λ n. number k ∷ n ∷ h.clock ∷ h.records ∷ []) (eqb-true h.model S.model_mark model.0)
      ∙ ap (λ n. number k ∷ S.model_mark ∷ n ∷ h.records ∷ []) (eqb-true h.clock S.clock_mark clock.0)
      ∙ ap (λ n. number k ∷ S.model_mark ∷ S.clock_mark ∷ n ∷ []) (eqb-true h.records count clock.1)

  fit : length c ≡ 4 → (k : Claim) → h.verdict ≡ number k → (b : Bool) → head_fits S count h ≡ b → Says S count c (cond b (Ok k) (Err Foreign))
  fit four k says true fits = fitting four k says fits
  fit four k says false fits = tt

  claimed : length c ≡ 4 → (x y z : Bool) → eqb h.verdict 1 ≡ x → eqb h.verdict 2 ≡ y → eqb h.verdict 3 ≡ z → Says S count c (claim_by (cond x (Some claim.Order) (cond y (Some claim.Opposed) (cond z (Some claim.Orphan) None))) (head_fits S count h) f.place)
  claimed four true y z a b d = fit four claim.Order (eqb-true h.verdict 1 a) _ refl
  claimed four false true z a b d = fit four claim.Opposed (eqb-true h.verdict 2 b) _ refl
  claimed four false false true a b d = fit four claim.Orphan (eqb-true h.verdict 3 d) _ refl
  claimed four false false false a b d = tt

  head_says : Says S count c (first_claim S count (Ok f))
  head_says = by f.sort
    where
      sized : (b : Bool) → eqb (length c) 4 ≡ b → Says S count c (claim_read S count f.place (cond b (Ok h) (Err (fault_at f.place))))
      sized true e = claimed (eqb-true (length c) 4 e) _ _ _ refl refl refl
      sized false e = tt

      by : (s : Sort) → Says S count c (claim_sort s S count f)
      by head_field = sized (eqb (length c) 4) refl
      by s = tt

-- A paper, beside the lawful records of a run.
module _ (S : Setting) (p : ℕ) (rs : List Record) (adm : admits p [] rs ≡ true) (paper : List ℕ) where
  abbrev R : Run
  R = run_of S rs

  abbrev IsTrue : Result Verdict PaperFault → Type 0
  IsTrue = TrueOf S rs paper

  abbrev HeadSays : ℕ → Type 0
  HeadSays n = head_in paper ≡ claiming S (length rs) n

  -- The conclusion.
  module _ (v : Verdict) (b : Bool) (h : b ≡ true → TrueWith S rs paper v) where
    concluded_true : (n at : ℕ) → IsTrue (concluded n b v at)
    concluded_true n at = stands (ltb (at + 3) n) b h _ _
      where
        stands : (short b : Bool) → (b ≡ true → TrueWith S rs paper v) → (f g : PaperFault) → IsTrue (cond short (Err f) (cond b (Ok v) (Err g)))
        stands true b h f g = tt
        stands false true h f g = h refl
        stands false false h f g = tt

    end_true : (n : ℕ) (f : Result Shown ByteFault) → IsTrue (end_due n b v f)
    end_true n (Err e) = tt
    end_true n (Ok f) = by f.sort
      where
        by : (s : Sort) → IsTrue (end_sort s n b v f)
        by end_field = concluded_true n f.place
        by s = tt

  -- The bodies of an order and of an orphan, in the second field.
  module _ (n : ℕ) (ps : List Piece) where
    order_true : HeadSays 1 → (f : Result Shown ByteFault) → Has (body_in paper) f → IsTrue (order_due R n f ps)
    order_true said (Err e) is = tt
    order_true said (Ok f) is = by f.sort
      where
        legal : legal_order R f.content ≡ true → TrueWith S rs paper Order
        legal e = record { said = said; claim = order_legal R (body_in paper) (subst (λ c. legal_order R c ≡ true) is e); shown = tt }

        sized : (b : Bool) (g : PaperFault) → IsTrue (cond b (end_due n (legal_order R f.content) Order (next_field Paper (f.place + 3 + length f.content) ps)) (Err g))
        sized true g = end_true Order (legal_order R f.content) legal n _
        sized false g = tt

        by : (s : Sort) → IsTrue (order_sort s R n f ps)
        by order_field = sized (eqb (length f.content) (length rs)) _
        by s = tt

    orphan_true : HeadSays 3 → (f : Result Shown ByteFault) → Has (body_in paper) f → IsTrue (orphan_due rs n f ps)
    orphan_true said (Err e) is = tt
    orphan_true said (Ok f) is = by f.sort
      where
        l : ℕ
        l = get_or f.content 0 0

        none : names_orphan rs l ≡ true → NoOrder R
        none e =
            let q = and_parts (ltb 0 l) (leb l (length rs) && orphan rs l) e in
            let r = and_parts (leb l (length rs)) (orphan rs l) q.1 in
            orphan_none S rs l (ltb-true 0 l q.0) (leb-true l (length rs) r.0) r.1

        sized : (b : Bool) → eqb (length f.content) 1 ≡ b → (g : PaperFault) → IsTrue (cond b (end_due n (names_orphan rs l) (Orphan l) (next_field Paper (f.place + 3 + length f.content) ps)) (Err g))
        sized true e g = end_true (Orphan l) (names_orphan rs l) (λ o. record { said = said; claim = none o; shown = (sym is ∙ one_number f.content (eqb-true (length f.content) 1 e), o) }) n _
        sized false e g = tt

        by : (s : Sort) → IsTrue (orphan_sort s rs n f ps)
        by orphan_field = sized (eqb (length f.content) 1) refl _
        by s = tt

  -- what was judged: the lines are founded, and an accepted paper is true
  abbrev Good : Judged → Type 0
  Good j = (founded R [] j.lines ≡ true) × IsTrue j.answer

  -- The body of opposed lines.
  module _ (said : HeadSays 2) (places n : ℕ) where
    -- a line is listed only where it is founded, and then what follows is good
    module _ (ls : List Line) (h : founded R [] ls ≡ true) (rest : List Line → Judged) (ih : (more : List Line) → founded R [] more ≡ true → Good (rest more)) where
      fit_good : (at : ℕ) (l : Line) (b : Bool) → next.fits R ls l ≡ b → Good (line_founded (next.if_fits b l) at ls rest)
      fit_good at l true e = ih (ls ++ l ∷ []) (founded_push R ls l h (and_parts (follows R ls l) (not (listed ls l.first l.second)) e).0)
      fit_good at l false e = (h, tt)

      placed_good : (at : ℕ) (b : Bool) (w : WrittenLine) → Good (line_placed b (founded_line R ls w) at ls rest)
      placed_good at false w = (h, tt)
      placed_good at true w = by (rule_at w.rule)
        where
          by : (r : Option Rule) → Good (line_founded (founded_by r R ls w) at ls rest)
          by None = (h, tt)
          by (Some r) = fit_good at (next.line_of r w.first w.second w.third) _ refl

      read_good : (at : ℕ) (w : Result WrittenLine ByteFault) → Good (line_read w R places at ls rest)
      read_good at (Err e) = (h, tt)
      read_good at (Ok w) = placed_good at (ltb (length ls) places) w

      opposed : last_opposed ls ≡ true → TrueWith S rs paper Opposed
      opposed e = let t = two_opposed ls e in record { said = said; claim = opposed_none S p rs adm ls h t.0 t.1 t.2 t.3; shown = tt }

      sort_good : (s : Sort) (f : Shown) → Good (lines_sort s R places n ls f rest)
      sort_good line_field f = read_good f.place (written_line_of f.place f.content)
      sort_good end_field f = (h, concluded_true Opposed (last_opposed ls) opposed n f.place)
      sort_good s f = (h, tt)

    field_good : (ls : List Line) → founded R [] ls ≡ true → (rest : List Line → ℕ → Judged) →
        ((more : List Line) (at : ℕ) → founded R [] more ≡ true → Good (rest more at)) → (f : Result Shown ByteFault) → Good (lines_field R places n ls f rest)
    field_good ls h rest ih (Err e) = (h, tt)
    field_good ls h rest ih (Ok f) = let next = f.place + 3 + length f.content in sort_good ls h (λ more. rest more next) (λ more g. ih more next g) f.sort f

    lines_good : (ps : List Piece) (ls : List Line) (at : ℕ) → founded R [] ls ≡ true → Good (lines_due R places n ls at ps)
    unfolding lines_due
    lines_good [] ls at h = (h, tt)
    lines_good (p ∷ ps) ls at h = field_good ls h (λ more next. lines_due R places n more next ps) (λ more next g. lines_good ps more next g) (next_field Paper at (p ∷ ps))

  -- the lines that the referee lists are founded, also where the paper is refused after them, and what it accepts is true of the run
  pub paper_good : (places : ℕ) → Good (judge_paper S rs places paper)
  paper_good places = headed (next_field Paper 0 ps) (field_content 0 ps)
    where
      ps : List Piece
      ps = pieces paper

      second : Has (body_in paper) (next_field Paper 7 (later ps))
      second = field_content 7 (later ps)

      by : (c : Result Claim PaperFault) → Says S (length rs) (head_in paper) c → Good (judge_body c S rs places (length paper) (later ps))
      by (Err f) said = (refl, tt)
      by (Ok claim.Order) said = (refl, order_true (length paper) (later (later ps)) said (next_field Paper 7 (later ps)) second)
      by (Ok claim.Opposed) said = lines_good said places (length paper) (later ps) [] 7 refl
      by (Ok claim.Orphan) said = (refl, orphan_true (length paper) (later (later ps)) said (next_field Paper 7 (later ps)) second)

      headed : (f : Result Shown ByteFault) → Has (head_in paper) f → Good (judge_body (first_claim S (length rs) f) S rs places (length paper) (later ps))
      headed (Err e) is = (refl, tt)
      headed (Ok f) is = by (first_claim S (length rs) (Ok f)) (subst (λ c. Says S (length rs) c (first_claim S (length rs) (Ok f))) is (head_says S (length rs) f))

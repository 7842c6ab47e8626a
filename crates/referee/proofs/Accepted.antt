-- The paper that is written of what holds of a run is accepted. Assumes nothing.
use Rattle.std.proofs.Common.{◌≡◌, ℕ, ◌+◌, ◌*◌, ◌≤◌, Bool, true, eqb, List, [], ◌∷◌, ◌++◌, length, Some, Ok, refl, sym, ap, ◌∙◌, subst, append_assoc, append-nil, arith, length-append}
use Rattle.std.proofs.lemmas.Bool.{and_parts, and_from, eq-eqb, le-ltb, lt-ltb, not_from_false}
use Rattle.memory.specs.declared.lines.Line.{Line}
use Rattle.memory.specs.declared.lines.Rule.{Rule}
use Rattle.memory.specs.declared.lines.Rule.TheVariants.{Clock, Model, ReadsFrom, InitialRead, Coherence, FromRead, Transitive}
use Rattle.memory.specs.declared.records.Record.{Record}
use Rattle.memory.specs.declared.verdicts.Verdict.{Verdict}
use Rattle.memory.specs.declared.verdicts.Verdict.TheVariants.{Order, Opposed, Orphan}
use Rattle.memory.specs.Legal.{Legal}
use Rattle.memory.specs.Numbers.{rule_number, rule_at}
use Rattle.memory.specs.Reading.{names_orphan}
use Rattle.memory.specs.Runs.{Run, Setting, run_of}
use Rattle.wire.specs.declared.fields.Text.TheVariants.{Paper}
use Rattle.wire.specs.Bytes.{line_bytes, paper_bytes, order_body, lines_body, orphan_body}
use Rattle.wire.specs.Fields.{Piece, whole, pieces, next_field, later, line_in, paper_head_in}
use Rattle.wire.proofs.Found.{field_found, wholes_of, paper_found, lines_found}
use Rattle.wire.proofs.InOrder.{lines_long}
use Rattle.inference.specs.Next.{fits, if_fits}
use Rattle.inference.specs.Paired.{paired}
use Rattle.inference.specs.Rules.{follows}
use Rattle.inference.proofs.Pairs.{new_among}
use Rattle.inference.proofs.Sound.{founded}
use Rattle.search.specs.Orders.{legal_order}
use Rattle.search.proofs.LegalOrders.{legal_order_is}
use Rattle.referee.specs.declared.papers.Claim.{Claim}
use Rattle.referee.specs.declared.papers.Claim.TheVariants as claim
use Rattle.referee.specs.Lines.{founded_by, founded_line, last_opposed}
use Rattle.referee.specs.Papers.{Judged, concluded, line_placed, line_founded, lines_due, claim_at, claim_by, head_fits, first_claim, judge_body, judge_paper}

-- the end stands at the end, and the conclusion stands
closed : (n at : ℕ) (stands : Bool) (v : Verdict) → n ≡ at + 3 → stands ≡ true → concluded n stands v at ≡ Ok v
closed n at stands v long h = rw (le-ltb (at + 3) n (omega arith), h) refl

-- a line is read back as it was written
line_back : (R : Run) (ls : List Line) (l : Line) → fits R ls l ≡ true → founded_line R ls (line_in (line_bytes l)) ≡ Some l
line_back R ls l e = ap (λ r. founded_by r R ls (line_in (line_bytes l))) (by l.rule) ∙ ap (λ b. if_fits b l) e
  where
    by : (r : Rule) → rule_at (rule_number r) ≡ Some r
    by Clock = refl
    by Model = refl
    by ReadsFrom = refl
    by InitialRead = refl
    by Coherence = refl
    by FromRead = refl
    by Transitive = refl

module _ (S : Setting) (rs : List Record) (places : ℕ) where
  abbrev R : Run
  R = run_of S rs

  -- the paper of a verdict with this number, and its head
  abbrev pub written : ℕ → List ℕ → List ℕ
  written v body = paper_bytes v S.model_mark S.clock_mark (length rs) body

  abbrev head : ℕ → List ℕ
  head v = v ∷ S.model_mark ∷ S.clock_mark ∷ length rs ∷ []

  head_passed : (v : ℕ) → head_fits S (length rs) (paper_head_in (head v)) ≡ true
  head_passed v = and_from (eqb S.model_mark S.model_mark) _ (eq-eqb _ _ refl) (and_from (eqb S.clock_mark S.clock_mark) _ (eq-eqb _ _ refl) (eq-eqb (length rs) (length rs) refl))

  -- it is accepted where its body is
  paper_passed : (v : ℕ) (c : Claim) (body : List ℕ) (ps : List Piece) (w : Verdict) → claim_at v ≡ Some c → ((rest : List ℕ) → pieces (body ++ rest) ≡ ps ++ pieces rest) →
      (judge_body (Ok c) S rs places (length (written v body)) (ps ++ whole 31 [] ∷ [])).answer ≡ Ok w → (judge_paper S rs places (written v body)).answer ≡ Ok w
  paper_passed v c body ps w is found h =
      let n : ℕ = length (written v body) in
      ap (λ qs. (judge_body (first_claim S (length rs) (next_field Paper 0 qs)) S rs places n (later qs)).answer) (paper_found v S.model_mark S.clock_mark (length rs) body ps found)
      ∙ (let fit = head_passed v in λ i. (judge_body (claim_by (is i) (fit i) 0) S rs places n (ps ++ whole 31 [] ∷ [])).answer)
      ∙ h

  pub order_accepted : (order : List ℕ) → Legal R order → length rs ≤ 64 → (judge_paper S rs places (written 1 (order_body order))).answer ≡ Ok Order
  order_accepted order legal few =
      let n : ℕ = length (written 1 (order_body order)) in
      paper_passed 1 claim.Order (order_body order) (whole 18 order ∷ []) Order refl (λ rest. field_found 18 order rest (omega (arith, legal.long)))
      (rw (eq-eqb (length order) (length rs) legal.long) (closed n (10 + length order) (legal_order R order) Order (omega (arith, length-append order (31 ∷ 0 ∷ 0 ∷ []))) (legal_order_is R order legal)))

  pub orphan_accepted : (l : ℕ) → names_orphan rs l ≡ true → (judge_paper S rs places (written 3 (orphan_body l))).answer ≡ Ok (Orphan l)
  orphan_accepted l h = paper_passed 3 claim.Orphan (orphan_body l) (whole 19 (l ∷ []) ∷ []) (Orphan l) refl (λ rest. field_found 19 (l ∷ []) rest (omega arith)) (closed _ 11 (names_orphan rs l) (Orphan l) refl h)

  -- the lines that are left of some that are founded, and the end
  lines_passed : (n at : ℕ) (ls more : List Line) → founded R ls more ≡ true → paired (length rs) (ls ++ more) ≡ true → last_opposed (ls ++ more) ≡ true → length (ls ++ more) ≤ places → n ≡ at + 7 * length more + 3 →
      (lines_due R places n ls at (wholes_of 17 line_bytes more ++ whole 31 [] ∷ [])).answer ≡ Ok Opposed
  unfolding lines_due
  lines_passed n at ls [] h new end room long = closed n at (last_opposed ls) Opposed (omega arith) (subst (λ ks. last_opposed ks ≡ true) (append-nil ls) end)
  lines_passed n at ls (l ∷ more) h new end room long =
      let p = and_parts (follows R ls l) _ h in
      let fit : fits R ls l ≡ true = and_from (follows R ls l) _ p.0 (not_from_false _ (new_among (length rs) ls l more new)) in
      let back : (ls ++ l ∷ []) ++ more ≡ ls ++ l ∷ more = append_assoc ls (l ∷ []) more in
      let rest : List Line → Judged = λ ks. lines_due R places n ks (at + 3 + 4) (wholes_of 17 line_bytes more ++ whole 31 [] ∷ []) in
      ap (λ b. (line_placed b (founded_line R ls (line_in (line_bytes l))) at ls rest).answer) (lt-ltb (length ls) places (omega (arith, length-append ls (l ∷ more))))
      ∙ ap (λ o. (line_founded o at ls rest).answer) (line_back R ls l fit)
      ∙ lines_passed n (at + 3 + 4) (ls ++ l ∷ []) more p.1
      (subst (λ ks. paired (length rs) ks ≡ true) (sym back) new)
      (subst (λ ks. last_opposed ks ≡ true) (sym back) end)
      (subst (λ ks. length ks ≤ places) (sym back) room) (omega arith)

  pub lines_accepted : (ls : List Line) → founded R [] ls ≡ true → paired (length rs) ls ≡ true → last_opposed ls ≡ true → length ls ≤ places → (judge_paper S rs places (written 2 (lines_body ls))).answer ≡ Ok Opposed
  lines_accepted ls h new end room =
      paper_passed 2 claim.Opposed (lines_body ls) (wholes_of 17 line_bytes ls) Opposed refl (lines_found ls)
      (lines_passed _ 7 [] ls h new end room (omega (arith, length-append (lines_body ls) (31 ∷ 0 ∷ 0 ∷ []), lines_long ls)))

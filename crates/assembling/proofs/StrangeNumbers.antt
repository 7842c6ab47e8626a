-- A log of a number of processors that no run may have has a line that says such a number by itself. Assumes nothing.
use Rattle.std.proofs.Common.{◌≡◌, ℕ, ◌+◌, ◌≤◌, Bool, true, false, cond, not, leb, ltb, List, [], ◌∷◌, ◌++◌, max, Some, None, Ok, Err, Option, Result, IfSome, unwrap_or, ◌==◌, refl, sym, ap, ◌∙◌, subst, arith, inl, inr, ◌⊎◌}
use Rattle.std.specs.List.{All, onto_first}
use Rattle.std.proofs.lemmas.Bool.{and_parts, and_from, leb-true, le-leb}
use Rattle.std.proofs.lemmas.List.Elements.{All-head, All-tail, All-cons, All-nil}
use Rattle.std.proofs.lemmas.List.Splits.{slice_split_none}
use Rattle.memory.specs.Admission.{opens}
use Rattle.logs.specs.declared.headings.Heading.{Heading}
use Rattle.logs.specs.declared.statements.Statement.{Statement}
use Rattle.logs.specs.declared.statements.Statement.TheVariants as statement
use Rattle.logs.specs.declared.troubles.BadLine.{BadLine}
use Rattle.logs.specs.declared.troubles.Expected.{Expected}
use Rattle.logs.specs.declared.troubles.Expected.TheVariants.{HeadBefore}
use Rattle.logs.specs.declared.reading.Access.{Access}
use Rattle.logs.specs.Parts.{and_then}
use Rattle.logs.specs.Statements.{statement_of}
use Rattle.logs.specs.Reading.{Said, unsaid, allowed, heading_with, head_of, in_line, line_read, access_at, lines_read, said_by, lines_of, log_of}
use Rattle.assembling.specs.Assembly.{strange, strange_line}
use Rattle.assembling.specs.RoundTrips.{StrangeAt}

-- no newline
abbrev Unbroken : List ℕ → Type 0
Unbroken bs = All (λ b. (b == 10) ≡ false) bs

unbroken_lines : (bs : List ℕ) → All Unbroken (lines_of bs)
unbroken_lines [] = All-cons Unbroken [] [] (All-nil (λ b. (b == 10) ≡ false)) (All-nil Unbroken)
unbroken_lines (b ∷ bs) = by (b == 10) refl (lines_of bs) (unbroken_lines bs)
  where
    by : (t : Bool) → (b == 10) ≡ t → (ls : List (List ℕ)) → All Unbroken ls → All Unbroken (cond t ([] ∷ ls) (onto_first b ls))
    by true is ls rest = All-cons Unbroken [] ls (All-nil (λ b. (b == 10) ≡ false)) rest
    by false is [] rest = All-cons Unbroken (b ∷ []) [] (All-cons (λ b. (b == 10) ≡ false) b [] is (All-nil (λ b. (b == 10) ≡ false))) (All-nil Unbroken)
    by false is (l ∷ ls) rest = All-cons Unbroken (b ∷ l) ls (All-cons (λ b. (b == 10) ≡ false) b l is (All-head Unbroken l ls rest)) (All-tail Unbroken l ls rest)

-- what a line says by itself
alone : (line : List ℕ) → Unbroken line → log_of line ≡ and_then (line_read 1 unsaid line) (λ x. Ok (record { head = head_of x.0; accesses = access_at 1 x.1 }))
unfolding log_of said_by lines_read
alone line whole = ap (lines_read 1 unsaid []) (slice_split_none (λ b. b == 10) line whole)

-- what was said is no number that no run may have, and no such number is named
record Fine (h : Heading) : Type 0 where
  count : IfSome h.processors (λ k. opens k ≡ true)
  named : h.named ≤ 16

fine_head : (h : Heading) → Fine h → opens (head_of h).processors ≡ true
fine_head h fine = by h.processors fine.count
  where
    by : (o : Option ℕ) → IfSome o (λ k. opens k ≡ true) → opens (unwrap_or o (max 1 h.named)) ≡ true
    by (Some k) ok = ok
    by None ok = let named = fine.named in and_from (leb 1 (max 1 h.named)) _ (le-leb 1 (max 1 h.named) (omega arith)) (le-leb (max 1 h.named) 16 (omega arith))

unless_not : (b : Bool) → not b ≡ false → b ≡ true
unless_not true is = refl
unless_not false is = absurd (cc is)

-- the heading that a statement leaves, and the statement
abbrev beside : Statement → Result Heading Expected → Result (Heading × Statement) Expected
beside s r = and_then r (λ x. Ok (x, s))

-- with what one more line of a known statement says
abbrev turned : Heading → Result Statement Expected → Result (Heading × Statement) Expected
turned h r = and_then r (λ s. beside s (heading_with h s))

same_heading : (h next : Heading) (s t : Statement) → ◌≡◌ {A = Result (Heading × Statement) BadLine} (Ok (h, s)) (Ok (next, t)) → h ≡ next
same_heading h next s t is = let e : ◌≡◌ {A = Heading × Statement} (h, s) (next, t) = cc in ap (λ x. x.0) e

allowed_next : (n : ℕ) (h : Heading) (said : Bool) (twice : Expected) (then next : Heading) (s t : Statement) → in_line n (beside s (allowed h said twice then)) ≡ Ok (next, t) → then ≡ next
allowed_next n h said twice then next s t = by (ltb 0 h.named) said
  where
    by : (a b : Bool) → in_line n (beside s (cond a (Err HeadBefore) (cond b (Err twice) (Ok then)))) ≡ Ok (next, t) → then ≡ next
    by true b is = absurd (cc is)
    by false true is = absurd (cc is)
    by false false is = same_heading then next s t is

-- behind a line that says no strange number by itself, all is still fine
still_fine : (n : ℕ) (h next : Heading) (line : List ℕ) (t : Statement) → Fine h → Unbroken line → strange (log_of line) ≡ false → line_read n h line ≡ Ok (next, t) → Fine next
unfolding line_read heading_with
still_fine n h next line t fine whole calm read = by (statement_of line) (ap strange (sym (alone line whole)) ∙ calm) read
  where
    by : (r : Result Statement Expected) → strange (and_then (in_line 1 (turned unsaid r)) (λ x. Ok (record { head = head_of x.0; accesses = access_at 1 x.1 }))) ≡ false → in_line n (turned h r) ≡ Ok (next, t) → Fine next
    by (Err e) calm read = absurd (cc read)
    by (Ok statement.Nothing) calm read = subst Fine (same_heading h next statement.Nothing t read) fine
    by (Ok (statement.Model m)) calm read = subst Fine (allowed_next n h _ _ _ next _ t read) (record { count = fine.count; named = fine.named })
    by (Ok (statement.Clock k)) calm read = subst Fine (allowed_next n h _ _ _ next _ t read) (record { count = fine.count; named = fine.named })
    by (Ok (statement.Processors k)) calm read = subst Fine (allowed_next n h _ _ _ next _ t read) (record { count = unless_not (opens k) calm; named = fine.named })
    by (Ok (statement.Access e)) calm read =
        let named = fine.named in
        let few = leb-true (max 1 (max 0 (e.processor + 1))) 16 (and_parts (leb 1 (max 1 (max 0 (e.processor + 1)))) _ (unless_not (opens (max 1 (max 0 (e.processor + 1)))) calm)).1 in
        subst Fine (same_heading _ next (statement.Access e) t read) (record { count = fine.count; named = omega arith })

-- so is a log whose lines say none
steady : (n : ℕ) (h : Heading) (before : List Access) (lines : List (List ℕ)) (said : Said) → Fine h → All Unbroken lines → All (λ l. strange (log_of l) ≡ false) lines → lines_read n h before lines ≡ Ok said → opens said.head.processors ≡ true
unfolding lines_read
steady n h before [] said fine whole calm read = let e : ◌≡◌ {A = Said} (record { head = head_of h; accesses = before }) said = cc read in subst (λ s. opens s.head.processors ≡ true) e (fine_head h fine)
steady n h before (line ∷ lines) said fine whole calm read =
    by (line_read n h line) refl (λ next t fine. steady (n + 1) next (before ++ access_at n t) lines said fine (All-tail Unbroken line lines whole) (All-tail (λ l. strange (log_of l) ≡ false) line lines calm)) read
  where
    by : (r : Result (Heading × Statement) BadLine) → line_read n h line ≡ r → ((next : Heading) (t : Statement) → Fine next → lines_read (n + 1) next (before ++ access_at n t) lines ≡ Ok said → opens said.head.processors ≡ true) → and_then r (λ x. lines_read (n + 1) x.0 (before ++ access_at n x.1) lines) ≡ Ok said → opens said.head.processors ≡ true
    by (Err e) is rest read = absurd (cc read)
    by (Ok (next, t)) is rest read = rest next t (still_fine n h next line t fine (All-head Unbroken line lines whole) (All-head (λ l. strange (log_of l) ≡ false) line lines calm) is) read

-- the first line that says a strange number by itself, or there is none
found : (n : ℕ) (lines : List (List ℕ)) → StrangeAt lines n (strange_line n lines) ⊎ All (λ l. strange (log_of l) ≡ false) lines
unfolding strange_line
found n [] = inr (All-nil (λ l. strange (log_of l) ≡ false))
found n (line ∷ lines) = by (strange (log_of line)) refl (found (n + 1) lines)
  where
    by : (b : Bool) → strange (log_of line) ≡ b → StrangeAt lines (n + 1) (strange_line (n + 1) lines) ⊎ All (λ l. strange (log_of l) ≡ false) lines → StrangeAt (line ∷ lines) n (cond b n (strange_line (n + 1) lines)) ⊎ All (λ l. strange (log_of l) ≡ false) (line ∷ lines)
    by true is rest = inl (record { before = []; line = line; after = lines; parts = refl; place = omega arith; is = is; first = All-nil (λ l. strange (log_of l) ≡ false) })
    by false is (inl s) = let place = s.place in inl (record {
      before = line ∷ s.before;
      line = s.line;
      after = s.after;
      parts = ap (λ ls. line ∷ ls) s.parts;
      place = omega arith;
      is = s.is;
      first = All-cons (λ l. strange (log_of l) ≡ false) line s.before is s.first;
    })
    by false is (inr calm) = inr (All-cons (λ l. strange (log_of l) ≡ false) line lines is calm)

-- where the number of a log is strange, there is one
pub strange_there : (text : List ℕ) (said : Said) → log_of text ≡ Ok said → opens said.head.processors ≡ false → StrangeAt (lines_of text) 1 (strange_line 1 (lines_of text))
unfolding log_of said_by
strange_there text said reads odd = by (found 1 (lines_of text))
  where
    by : StrangeAt (lines_of text) 1 (strange_line 1 (lines_of text)) ⊎ All (λ l. strange (log_of l) ≡ false) (lines_of text) → StrangeAt (lines_of text) 1 (strange_line 1 (lines_of text))
    by (inl s) = s
    by (inr calm) = absurd (cc (sym odd ∙ steady 1 unsaid [] (lines_of text) said (record { count = tt; named = omega arith }) (unbroken_lines text) calm reads))

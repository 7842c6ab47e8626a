-- Lines that are read one after the other. Assumes nothing.
use Rattle.std.proofs.Common.{◌≡◌, ℕ, ◌+◌, ◌<◌, List, [], ◌++◌, length, get_or, drop, Ok, Err, sym, ap, ◌∙◌, arith, subst, rules}
use Rattle.std.specs.List.{enumerate_from, All}
use Rattle.std.proofs.lemmas.List.{at_drop_more, at_drop_all}
use Rattle.std.proofs.lemmas.List.Elements.{All-append, All-cons}
use Rattle.std.proofs.lemmas.List.FromFn.{length-enumerate_from, get_or-enumerate_from}
use Rattle.logs.specs.declared.headings.Heading.{Heading}
use Rattle.logs.specs.declared.reading.Access.{Access}
use Rattle.logs.specs.declared.statements.Statement.{Statement}
use Rattle.logs.specs.declared.statements.Statement.TheVariants as statement
use Rattle.logs.specs.declared.troubles.BadLine.{BadLine}
use Rattle.logs.specs.Parts.{and_then}
use Rattle.logs.specs.Reading.{lines_read, line_read, access_at, head_of}
use Rattle.logs.specs.Sayable.{Sayable, SaysSayable}

-- the turn at place k of numbered lines
pub record Turn (lines : List (List ℕ)) (k i : ℕ) (line : List ℕ) : Type 0 where
  within : k < length lines
  place : i ≡ k
  text : line ≡ get_or lines k line

pub turn_of : (lines : List (List ℕ)) (k i : ℕ) (line : List ℕ) → (k < length (enumerate_from 0 lines)) × ((i, line) ≡ get_or (enumerate_from 0 lines) k (i, line)) → Turn lines k i line
turn_of lines k i line h =
    let lt : k < length lines = omega (arith, h.0, length-enumerate_from 0 lines) in
    let e : (i, line) ≡ (0 + k, get_or lines k line) = h.1 ∙ get_or-enumerate_from 0 lines k (i, line) lt in
    record { within = lt; place = omega (arith, ap (λ x. x.0) e); text = ap (λ x. x.1) e }

next_line : (lines : List (List ℕ)) (k : ℕ) (d : List ℕ) (h : Heading) (before : List Access) → k < length lines → lines_read (k + 1) h before (drop k lines) ≡ and_then (line_read (k + 1) h (get_or lines k d)) (λ x. lines_read (k + 1 + 1) x.0 (before ++ access_at (k + 1) x.1) (drop (k + 1) lines))
unfolding lines_read
next_line lines k d h before lt = at_drop_more (lines_read (k + 1) h before) lines k d lt

pub goes_on : (lines : List (List ℕ)) (k i : ℕ) (line : List ℕ) (h next : Heading) (s : Statement) (before items : List Access) → Turn lines k i line → line_read (i + 1) h line ≡ Ok (next, s) → items ≡ before ++ access_at (i + 1) s
    → lines_read (k + 1 + 1) next items (drop (k + 1) lines) ≡ lines_read (k + 1) h before (drop k lines)
goes_on lines k i line h next s before items t read kept =
    let e : line_read (k + 1) h (get_or lines k line) ≡ Ok (next, s) = (λ j. line_read ((sym t.place) j + 1) h ((sym t.text) j)) ∙ read in
    sym (next_line lines k line h before t.within ∙ ap (λ r. and_then r (λ x. lines_read (k + 1 + 1) x.0 (before ++ access_at (k + 1) x.1) (drop (k + 1) lines))) e
    ∙ ap (λ xs. lines_read (k + 1 + 1) next xs (drop (k + 1) lines)) (ap (λ n. before ++ access_at (n + 1) s) (sym t.place) ∙ sym kept))

pub stops : (lines : List (List ℕ)) (k i : ℕ) (line : List ℕ) (h : Heading) (before : List Access) (bad : BadLine) → Turn lines k i line → line_read (i + 1) h line ≡ Err bad → lines_read (k + 1) h before (drop k lines) ≡ Err bad
stops lines k i line h before bad t read =
    let e : line_read (k + 1) h (get_or lines k line) ≡ Err bad = (λ j. line_read ((sym t.place) j + 1) h ((sym t.text) j)) ∙ read in
    next_line lines k line h before t.within ∙ ap (λ r. and_then r (λ x. lines_read (k + 1 + 1) x.0 (before ++ access_at (k + 1) x.1) (drop (k + 1) lines))) e

pub at_the_end : (lines : List (List ℕ)) (k n : ℕ) (h : Heading) (before : List Access) → k ≡ length (enumerate_from 0 lines) → lines_read n h before (drop k lines) ≡ Ok (record { head = head_of h; accesses = before })
unfolding lines_read
at_the_end lines k n h before e = at_drop_all (lines_read n h before) lines k (omega (arith, e, length-enumerate_from 0 lines))

says_sayable : (n : ℕ) (s : Statement) → SaysSayable s → All (λ a. Sayable a.entry) (access_at n s)
says_sayable n statement.Nothing h = search rules
says_sayable n (statement.Model m) h = search rules
says_sayable n (statement.Clock c) h = search rules
says_sayable n (statement.Processors k) h = search rules
says_sayable n (statement.Access e) h = All-cons (λ a. Sayable a.entry) _ [] h (search rules)

pub sayable_on : (before items : List Access) (n : ℕ) (s : Statement) → All (λ a. Sayable a.entry) before → SaysSayable s → items ≡ before ++ access_at n s → All (λ a. Sayable a.entry) items
sayable_on before items n s all one e = subst (All (λ a. Sayable a.entry)) (sym e) (All-append (λ a. Sayable a.entry) before (access_at n s) all (says_sayable n s one))

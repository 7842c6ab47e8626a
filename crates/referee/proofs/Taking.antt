-- How far taking the lines of a paper has come, from field to field. Assumes nothing.
use Rattle.std.proofs.Common.{◌≡◌, ℕ, ◌+◌, ◌==◌, nat_lt, true, false, List, [], ◌∷◌, length, Ok, Err, Some, Result, refl, sym, ap, ◌∙◌, arith}
use Rattle.std.specs.Result.{MatchResult, IsErrAnd}
use Rattle.std.proofs.lemmas.List.{length-drop}
use Rattle.std.proofs.lemmas.Bool.Decides.{nat_tests}
use Rattle.memory.specs.declared.lines.Line.{Line}
use Rattle.memory.specs.declared.verdicts.Verdict.{Verdict}
use Rattle.memory.specs.declared.verdicts.Verdict.TheVariants.{Opposed}
use Rattle.memory.specs.Runs.{Run}
use Rattle.wire.specs.declared.faults.ByteFault.{ByteFault}
use Rattle.wire.specs.declared.faults.PaperFault.{PaperFault}
use Rattle.wire.specs.declared.faults.PaperFault.TheVariants.{Bytes}
use Rattle.wire.specs.declared.fields.Field.{Field}
use Rattle.wire.specs.declared.fields.Field.TheVariants.{Line as LineField}
use Rattle.wire.specs.declared.fields.Part.{Part}
use Rattle.wire.specs.declared.fields.Reader.{Reader}
use Rattle.wire.specs.declared.fields.Text.TheVariants.{Paper}
use Rattle.wire.specs.declared.fields.WrittenLine.{WrittenLine}
use Rattle.wire.specs.Fields.{Piece, next_field, later, written_line_of}
use Rattle.wire.specs.Seen.{shown, left, Passed}
use Rattle.lists.specs.declared.lent.NoPlace.{NoPlace}
use Rattle.lists.specs.declared.lent.LentList.{LentList}
use Rattle.lists.specs.Lists.{entries, rest, Grown, Pushed}
use Rattle.case.proofs.Exits.{fell_with}
use Rattle.lists.proofs.Grown.{grown_none, grown_more}
use Rattle.referee.specs.Lines.{founded_line, last_opposed}
use Rattle.referee.specs.Papers.{Judged, judged, lines_sort, lines_field, lines_due, end_sort}
use Rattle.referee.specs.Parts.{LineTaken, went_on}

-- a founded line was pushed, where a place was left
pub took : {R : Run} {before after : LentList Line} {l : Line} (Q : NoPlace → Type 0) (at : ℕ) (w : Result WrittenLine ByteFault) (written : WrittenLine) (p : Result (Unit {0}) NoPlace) (r : Result (Unit {0}) PaperFault) → w ≡ Ok written → (length (rest before) == 0) ≡ false → founded_line R (entries before) written ≡ Some l → Pushed before after l p → MatchResult p (λ x. r ≡ Ok x) Q → LineTaken R w at before after r
took {R} {before} {after} {l} Q at w written (Ok u) r read room founded grown is =
    let placed : nat_lt (length (entries before)) (length (entries before) + length (rest before)) ≡ true = grind (arith, nat_tests) in
    record {
      read = λ more. rw (read, is) (simp (placed, founded, grown.entries));
      more = l ∷ [];
      grown = grown;
    }
took {before} Q at w written (Err e) r read room founded (none, same) is =
    let full : (length (rest before) == 0) ≡ true = rw none refl in
    absurd (cc)

-- a field more of a list of fields
lines_step : (R : Run) (places n : ℕ) (ls : List Line) (at : ℕ) (ps : List Piece) → lines_due R places n ls at ps ≡ lines_field R places n ls (next_field Paper at ps) (λ more next. lines_due R places n more next (later ps))
unfolding lines_due
lines_step R places n ls at [] = refl
lines_step R places n ls at (p ∷ ps) = refl

-- what judging the lines answers, from the reader's first place and the list's first lines on
abbrev all_due : Run → Reader → LentList Line → Judged
all_due R r ls = lines_due R (length (rest ls)) (length r.bytes.now) [] r.at (left r)

-- from the first place, where the list was empty, the reader has come to another, where the list has some lines
pub record Reached (R : Run) (first : Reader) (none : LentList Line) (r : Reader) (ls : LentList Line) : Type 0 where
  pub bytes : r.bytes ≡ first.bytes
  pub text : r.text ≡ Paper
  pub grown : Grown none ls (entries ls)
  pub same : all_due R first none ≡ lines_due R (length (rest none)) (length first.bytes.now) (entries ls) r.at (left r)

pub reached_none : (R : Run) (first : Reader) (none : LentList Line) → first.text ≡ Paper → entries none ≡ [] → Reached R first none first none
reached_none R first none text empty = record {
  bytes = refl;
  text = text;
  grown = rw empty (grown_none none);
  same = rw empty refl;
}

-- the judging ended with this answer
pub record Ends (R : Run) (first : Reader) (none after : LentList Line) (r : Result Verdict PaperFault) : Type 0 where
  pub answer : r ≡ (all_due R first none).answer
  pub lines : Grown none after (all_due R first none).lines

-- where a field is no line, the judging ends by it
no_line : (R : Run) (places n : ℕ) (ls : List Line) (x : Field) (rest : List Line → Judged) → ((p : Part) → x ≡ LineField p → ⊥) → lines_sort (shown x).sort R places n ls (shown x) rest ≡ judged ls (end_sort (shown x).sort n (last_opposed ls) Opposed (shown x))
no_line R places n ls (LineField p) rest other = absurd (other p refl)
no_line R places n ls x rest other = refl

module _ {R : Run} {first r : Reader} {none ls : LentList Line} (h : Reached R first none r ls) where
  ends_with : {after : LentList Line} {a : Result Verdict PaperFault} → Grown none after (entries after) → all_due R first none ≡ judged (entries after) a → Ends R first none after a
  ends_with {after} {a} grown is = record {
    answer = sym (ap (λ j. j.answer) is);
    lines = rw is grown;
  }

  onward : all_due R first none ≡ lines_field R (length (rest none)) (length first.bytes.now) (entries ls) (next_field r.text r.at (left r)) (λ more next. lines_due R (length (rest none)) (length first.bytes.now) more next (later (left r)))
  onward = h.same ∙ lines_step R (length (rest none)) (length first.bytes.now) (entries ls) r.at (left r) ∙ rw h.text refl

  -- no field stands there
  pub ends_reading : (e : ByteFault) (a : Result Verdict PaperFault) → Err e ≡ next_field r.text r.at (left r) → IsErrAnd a (λ x. x ≡ Bytes e) → Ends R first none ls a
  ends_reading e a is fell = rw (fell_with fell) (ends_with h.grown (onward ∙ rw (← is) refl))

  -- a field was read there
  module _ {after : Reader} (x : Field) (p : Passed r after (shown x)) (is : Ok (shown x) ≡ next_field r.text r.at (left r)) where
    step : all_due R first none ≡ lines_sort (shown x).sort R (length (rest none)) (length first.bytes.now) (entries ls) (shown x) (λ more. lines_due R (length (rest none)) (length first.bytes.now) more after.at (left after))
    step = onward ∙ rw (← is, ← p.rest, p.moved, p.place) refl

    -- it was no line
    pub ends_behind : ((p : Part) → x ≡ LineField p → ⊥) → Ends R first none ls (end_sort (shown x).sort (length first.bytes.now) (last_opposed (entries ls)) Opposed (shown x))
    ends_behind other = ends_with h.grown (step ∙ no_line R (length (rest none)) (length first.bytes.now) (entries ls) x _ other)

  -- a line was read there
  module _ {after : Reader} (x : Field) (part : Part) (line : x ≡ LineField part) (p : Passed r after (shown x)) (is : Ok (shown x) ≡ next_field r.text r.at (left r)) {now : LentList Line} {result : Result (Unit {0}) PaperFault} (t : LineTaken R (written_line_of part.place part.content.now) part.place ls now result) where
    now_grown : Grown none now (entries now)
    now_grown = rw t.grown.entries (grown_more h.grown t.grown)

    at_line : all_due R first none ≡ went_on result (entries now) (λ more. lines_due R (length (rest none)) (length first.bytes.now) more after.at (left after))
    at_line =
        let all : length (rest none) ≡ length (entries ls) + length (rest ls) = omega (arith, h.grown.room, ap length h.grown.rest, length-drop (length (entries ls)) (rest none)) in
        step x p is ∙ rw (line, all) (t.read _)

    pub ends_at_line : (e : PaperFault) (a : Result Verdict PaperFault) → result ≡ Err e → IsErrAnd a (λ x. x ≡ e) → Ends R first none now a
    ends_at_line e a is fell = rw (fell_with fell) (ends_with now_grown (at_line ∙ rw is refl))

    pub reached_more : after.bytes ≡ r.bytes → after.text ≡ r.text → result ≡ Ok tt → Reached R first none after now
    reached_more bytes text on = record {
      bytes = bytes ∙ h.bytes;
      text = text ∙ h.text;
      grown = now_grown;
      same = at_line ∙ rw on refl;
    }

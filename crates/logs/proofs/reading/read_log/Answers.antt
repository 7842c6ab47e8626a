use Rattle.std.proofs.Common.{rules, tests, ◌≡◌, ◌+◌, List, Ok, Err, ℕ, length, drop, ap, sym, ◌∙◌, ◌==◌}
use Rattle.std.proofs.lemmas.Iterator.Consumers.{YieldsList-turn, YieldsList-end, YieldsList-from_enumerate, YieldsList-at}
use Rattle.std.proofs.lemmas.Iterator.Splits.{YieldsList-from_slice_split}
use Rattle.std.proofs.lemmas.List.{length_push}
use Rattle.logs.specs.Reading.{lines_read, lines_of, log_of, said_by}
use Rattle.logs.proofs.FirstBad.{first_bad}
use Rattle.logs.proofs.Back.{reads_back_as}
use Rattle.logs.proofs.Lines.{turn_of, goes_on, stops, at_the_end, sayable_on}
use Rattle.logs.proofs.reading.read_log.Goals as goal

pub returns-in_err-next-clause-said : goal.returns-in_err-next-clause-said
unfolding log_of said_by
returns-in_err-next-clause-said c =
    let lines : List (List ℕ) = lines_of c.args.text.now in
    let t = turn_of lines _ _ _ (YieldsList-turn (YieldsList-at c.into_iter-i-iterator.ensures.into_iter_gives (YieldsList-from_enumerate (YieldsList-at c.enumerate-i-items.ensures.source (YieldsList-from_slice_split _ (λ b. b == 10) c.args.text.now c.split.ensures.rest c.split.ensures.done c.split.ensures.closure (λ x b q k. search (rules, tests)))) c.enumerate-i-items.ensures.count)) c.loop-i.yielded _ c.loop-i.yielded_by _ _ (c.in-Some.i, c.in-Some.line) c.in-Some.is c.next.ensures.steps) in
    let e : log_of c.args.text.now ≡ Err c.in_err-next.field-0.0 = sym c.loop-i.invariant.said ∙ stops lines _ _ _ _ _ _ t (sym c.in_err-next.ensures.said) in
    let first = first_bad _ _ e in
    search (rules, e, first)

pub loop-i-preserved : goal.loop-i-preserved
loop-i-preserved c =
    let lines : List (List ℕ) = lines_of c.args.text.now in
    let t = turn_of lines _ _ _ (YieldsList-turn (YieldsList-at c.into_iter-i-iterator.ensures.into_iter_gives (YieldsList-from_enumerate (YieldsList-at c.enumerate-i-items.ensures.source (YieldsList-from_slice_split _ (λ b. b == 10) c.args.text.now c.split.ensures.rest c.split.ensures.done c.split.ensures.closure (λ x b q k. search (rules, tests)))) c.enumerate-i-items.ensures.count)) c.loop-i.yielded _ c.loop-i.yielded_by _ _ (c.in-Some.i, c.in-Some.line) c.in-Some.is c.next.ensures.steps) in
    let e = goes_on lines _ _ _ c.loop-i.heading c.in_ok-next.next c.in_ok-next.statement c.loop-i.accesses.items c.keep.new.accesses.items t (sym c.in_ok-next.ensures.said) c.in_ok-keep.ensures in
    record {
      said = ap (λ n. lines_read (n + 1) c.in_ok-next.next c.keep.new.accesses.items (drop n lines)) (length_push c.loop-i.yielded (c.in-Some.i, c.in-Some.line)) ∙ (e ∙ c.loop-i.invariant.said);
      sayable = sayable_on c.loop-i.accesses.items c.keep.new.accesses.items (c.in-Some.i + 1) c.in_ok-next.statement c.loop-i.invariant.sayable c.in_ok-next.ensures.sayable c.in_ok-keep.ensures;
    }

pub returns-clause-said : goal.returns-clause-said
unfolding log_of said_by
returns-clause-said c =
    let lines : List (List ℕ) = lines_of c.args.text.now in
    let t = YieldsList-end (YieldsList-at c.into_iter-i-iterator.ensures.into_iter_gives (YieldsList-from_enumerate (YieldsList-at c.enumerate-i-items.ensures.source (YieldsList-from_slice_split _ (λ b. b == 10) c.args.text.now c.split.ensures.rest c.split.ensures.done c.split.ensures.closure (λ x b q k. search (rules, tests)))) c.enumerate-i-items.ensures.count)) c.loop-i.yielded _ c.loop-i.yielded_by _ _ c.in-None.is c.next.ensures.steps in
    sym c.loop-i.invariant.said ∙ (at_the_end lines (length c.loop-i.yielded) _ c.loop-i.heading c.loop-i.accesses.items t.1 ∙ ap (λ h. Ok (record { head = h; accesses = c.loop-i.accesses.items })) (sym c.head.ensures.said))

pub returns-clause-reads_back : goal.returns-clause-reads_back
returns-clause-reads_back c = λ records e. reads_back_as c.head.result records c.loop-i.accesses.items c.head.ensures.fits e c.loop-i.invariant.sayable

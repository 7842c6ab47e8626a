use Rattle.std.proofs.Common.{Ok, sym, ap, ◌∙◌}
use Rattle.case.proofs.Progress.{progress_begins, fell_reading, fell_saying, ended_there, fell_judging, progress_more}
use Rattle.case.proofs.Exits.{fell_with}
use Rattle.case.proofs.cases.Held.load_fields.Goals as goal

pub loop-found-init : goal.loop-found-init
loop-found-init c = progress_begins _ _ c.requires

pub returns-in_err-next-clause-result : goal.returns-in_err-next-clause-result
returns-in_err-next-clause-result c =
    rw (fell_with c.from_residual.ensures.1) (fell_reading c.loop-found.invariant c.in_err-next.field-0.0 c.in_err-next.ensures.answer)

pub returns-in_err-found-clause-result : goal.returns-in_err-found-clause-result
returns-in_err-found-clause-result c =
    let read = c.in_ok-next.ensures in
    rw (fell_with c.from_residual-in_err-found.ensures.1) (fell_saying c.loop-found.invariant read.passed read.answer _ (sym c.in_err-found.ensures.value))

pub loop-found-preserved : goal.loop-found-preserved
loop-found-preserved c =
    let read = c.in_ok-next.ensures in
    let said = c.in_ok-found.ensures in
    let given = c.in_ok-load_entry.ensures in
    rw given.2 (progress_more c.loop-found.invariant read.passed read.answer _ (sym said.value ∙ ap Ok c.in-Some.is) _ given.1 (rw c.in-Some.is at said.back) read.bytes read.text)

pub returns-in_err-load_entry-clause-result : goal.returns-in_err-load_entry-clause-result
returns-in_err-load_entry-clause-result c =
    let read = c.in_ok-next.ensures in
    let given = c.in_err-load_entry.ensures in
    rw (fell_with c.from_residual-in_err-load_entry.ensures.1, given.2, given.3) (fell_judging c.loop-found.invariant read.passed read.answer _ (sym c.in_ok-found.ensures.value ∙ ap Ok c.in-Some.is) _ given.1)

pub returns-clause-result : goal.returns-clause-result
returns-clause-result c =
    let read = c.in_ok-next.ensures in
    ended_there c.loop-found.invariant read.passed read.answer (sym c.in_ok-found.ensures.value ∙ ap Ok c.in_default.is)

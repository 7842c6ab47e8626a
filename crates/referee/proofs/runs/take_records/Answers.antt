use Rattle.std.proofs.Common.{Ok, sym, ap, ◌∙◌, inl}
use Rattle.case.proofs.Exits.{fell_with}
use Rattle.case.proofs.Progress.{fell_reading, fell_saying, ended_there}
use Rattle.referee.proofs.Reading.{reading_begins, reading_more, fell_taking}
use Rattle.referee.proofs.runs.take_records.Goals as goal

pub loop-found-init : goal.loop-found-init
loop-found-init c = reading_begins _ _ _ c.requires

pub returns-in_err-next-clause-read : goal.returns-in_err-next-clause-read
returns-in_err-next-clause-read c =
    rw (fell_with c.from_residual.ensures.1) (inl (fell_reading c.loop-found.invariant.progress c.in_err-next.field-0.0 c.in_err-next.ensures.answer))

pub returns-in_err-found-clause-read : goal.returns-in_err-found-clause-read
returns-in_err-found-clause-read c =
    let read = c.in_ok-next.ensures in
    rw (fell_with c.from_residual-in_err-found.ensures.1) (inl (fell_saying c.loop-found.invariant.progress read.passed read.answer _ (sym c.in_err-found.ensures.value)))

pub loop-found-preserved : goal.loop-found-preserved
loop-found-preserved c =
    let read = c.in_ok-next.ensures in
    let said = c.in_ok-found.ensures in
    reading_more c.loop-found.invariant read.passed read.answer _ (sym said.value ∙ ap Ok c.in-Some.is) (rw c.in-Some.is at said.back) read.bytes read.text _ c.in_ok-take_record.ensures

pub returns-in_err-take_record-clause-read : goal.returns-in_err-take_record-clause-read
returns-in_err-take_record-clause-read c =
    let read = c.in_ok-next.ensures in
    let said = c.in_ok-found.ensures in
    rw (fell_with c.from_residual-in_err-take_record.ensures.1)
    (fell_taking c.loop-found.invariant read.passed read.answer _ (sym said.value ∙ ap Ok c.in-Some.is) (rw c.in-Some.is at said.back) read.bytes read.text _ _ 0 c.in_err-take_record.ensures)

pub returns-clause-read : goal.returns-clause-read
returns-clause-read c =
    let read = c.in_ok-next.ensures in
    inl (ended_there c.loop-found.invariant.progress read.passed read.answer (sym c.in_ok-found.ensures.value ∙ ap Ok c.in_default.is))

use Rattle.std.proofs.Common.{rules}
use Rattle.inference.specs.Views.{run_is}
use Rattle.referee.proofs.Taking.{reached_none, ends_reading, ends_behind, ends_at_line, reached_more}
use Rattle.referee.proofs.papers.judge_lines.Goals as goal

pub loop-field-init : goal.loop-field-init
loop-field-init g c = reached_none (run_is c.args.run.now) c.args.reader.now c.args.lines.now c.requires.text c.requires.none

pub returns-in_err-field : goal.returns-in_err-field
returns-in_err-field g c =
    let t = ends_reading c.loop-field.invariant c.in_err-field.field-0.0 c.from_residual.result c.in_err-field.ensures.answer c.from_residual.ensures.1 in
    record { answer = t.answer; lines = t.lines }

pub returns-in_default : goal.returns-in_default
returns-in_default g c =
    let read = c.in_ok-field.ensures in
    let h = c.loop-field.invariant in
    let t = ends_behind h c.in_ok-field.field read.passed read.answer c.in_default.not-Line in
    record {
      answer = rw (c.conclude.ensures, c.last_opposed-stands.ensures, c.entries.ensures, read.bytes, h.bytes) t.answer;
      lines = t.lines;
    }

pub loop-field-preserved : goal.loop-field-preserved
loop-field-preserved g c =
    let read = c.in_ok-field.ensures in
    reached_more c.loop-field.invariant c.in_ok-field.field c.in-Line.part c.in-Line.is read.passed read.answer c.take_line.ensures read.bytes read.text (search rules)

pub returns-in_err-take_line : goal.returns-in_err-take_line
returns-in_err-take_line g c =
    let read = c.in_ok-field.ensures in
    let t = ends_at_line c.loop-field.invariant c.in_ok-field.field c.in-Line.part c.in-Line.is read.passed read.answer c.take_line.ensures c.in_err-take_line.field-0.0 c.from_residual-in_err-take_line.result (search rules) c.from_residual-in_err-take_line.ensures.1 in
    record { answer = t.answer; lines = t.lines }

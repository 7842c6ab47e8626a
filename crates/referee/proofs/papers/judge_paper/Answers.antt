use Rattle.std.proofs.Common.{length, refl}
use Rattle.memory.specs.Settings.{setting_lent}
use Rattle.wire.specs.Seen.{shown}
use Rattle.referee.proofs.Claimed.{claimed}
use Rattle.referee.proofs.papers.judge_paper.Goals as goal

pub returns-in-Order-clause-answer : goal.returns-in-Order-clause-answer
returns-in-Order-clause-answer g c =
    let S = setting_lent g.M.Model g.C.Clock c.args.setting in
    let count = length c.args.records.now in
    let field = shown c.in_ok-next.field-0 in
    let first = c.over-reader.ensures in
    let read = c.in_ok-next.ensures in
    let run = rw c.unwrap-run.ensures at c.new.ensures in
    let claims = rw (run.0, run.1) at c.in_ok-claim_in.ensures in
    let t = claimed S count c.args.bytes.now c.over-reader.result c.next.new.self field c.in_ok-claim_in.field-0 first.bytes first.start first.text read.bytes read.passed read.answer claims in
    rw (c.judge_order.ensures, run.0, run.1, t.claim, c.in-Order.is, t.body, t.at, t.size) refl

use Rattle.std.proofs.Common.{subst}
use Rattle.judging.specs.Marked.{marked}
use Rattle.deciding.specs.Reports.{Reports}
use Rattle.tables.proofs.Both.{both}
use Rattle.tables.proofs.rows.Row.of_run.Goals as goal

pub returns : goal.returns
returns c =
    let report = c.in_ok-report.report in
    let said = subst (λ bs. Reports (marked bs) bs c.args.steps report) c.counted.ensures c.in_ok-report.ensures in
    both c.of-2.result _ _ _ (λ row cells judged. (report, said, cells, judged)) c.of-2.ensures.cells c.of-2.ensures.judged

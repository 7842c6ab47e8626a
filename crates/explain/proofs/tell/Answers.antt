use Rattle.std.proofs.Common.{rules}
use Rattle.explain.proofs.tell.Goals as goal

pub returns : goal.returns
returns g c = record {
  report = c.in_ok-report.report;
  account = c.in_ok-account.account;
  reports = search rules;
  accounts = search rules;
  told = search rules;
  says = search rules;
}

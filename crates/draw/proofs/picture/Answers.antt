use Rattle.std.proofs.Common.{rules}
use Rattle.draw.proofs.picture.Goals as goal

pub returns-in-Some : goal.returns-in-Some
returns-in-Some g c = record {
  report = c.in_ok-report.report;
  reports = search rules;
  says = search rules;
  untouched = search rules;
}

pub returns : goal.returns
returns g c = record {
  report = c.in_ok-report.report;
  reports = search rules;
  says = search rules;
  untouched = tt;
}

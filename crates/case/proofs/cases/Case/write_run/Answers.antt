use Rattle.case.proofs.Reload.{reloads}
use Rattle.case.proofs.cases.Case.write_run.Goals as goal

pub returns-clause-reloads : goal.returns-clause-reloads
returns-clause-reloads g c = let held = c.held.inside in λ before. rw (← c.held.view_is) (reloads g.M.Model.MARK g.C.Clock.MARK before _ held.opened held.lawful held.sized)

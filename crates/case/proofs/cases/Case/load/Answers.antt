use Rattle.memory.specs.Settings.{setting_of}
use Rattle.case.proofs.cases.Case.load.Goals as goal

pub returns-clause-claims : goal.returns-clause-claims
returns-clause-claims g c = c.load.ensures.claims (setting_of g.M.Model g.C.Clock c.args.self.now.setting)

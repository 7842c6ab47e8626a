use Rattle.memory.specs.Settings.{setting_of}
use Rattle.checker.proofs.Histories.{promise}
use Rattle.checker.proofs.Loaded.{output_claims}
use Rattle.checker.proofs.check.Goals as goal

pub returns-in_err-case-clause-claims : goal.returns-in_err-case-clause-claims
returns-in_err-case-clause-claims g c = output_claims (setting_of g.M.Model g.C.Clock c.args.setting) (g.met.C.Clock.forward c.args.setting.clock) c.args.bytes.now

pub returns-in_err-case-clause-promise : goal.returns-in_err-case-clause-promise
returns-in_err-case-clause-promise g c = promise _ (g.met.C.Clock.forward c.args.setting.clock)

pub returns-clause-claims : goal.returns-clause-claims
returns-clause-claims g c = output_claims (setting_of g.M.Model g.C.Clock c.args.setting) (g.met.C.Clock.forward c.args.setting.clock) c.args.bytes.now

pub returns-clause-promise : goal.returns-clause-promise
returns-clause-promise g c = promise _ (g.met.C.Clock.forward c.args.setting.clock)

use Rattle.std.proofs.Common.{rules, Ok, ◌≡◌, ap, ◌∙◌, subst}
use Rattle.std.proofs.lemmas.Result.{IfOk-weaker}
use Rattle.memory.specs.Settings.{setting_of}
use Rattle.memory.specs.Runs.{Setting}
use Rattle.stages.specs.Stages.{verdict_at}
use Rattle.case.specs.State.{opened}
use Rattle.case.specs.Loading.{loading}
use Rattle.case.specs.Views.{view}
use Rattle.deciding.specs.Reports.{decided, Shows}
use Rattle.deciding.proofs.Claims.{decided_report}
use Rattle.deciding.proofs.ReadingUnderSetting.under.Goals as goal

pub returns-in-Ok : goal.returns-in-Ok
returns-in-Ok g c =
    let S : Setting = setting_of g.M.Model g.C.Clock c.args.setting in
    let loaded : view c.load.new.self ≡ (loading S.model_mark S.clock_mark (opened 1) c.args.self.bytes.now).state = search rules in
    let same : setting_of g.M.Model g.C.Clock c.decide.new.case.setting ≡ S = ap (setting_of g.M.Model g.C.Clock) (c.decide.ensures.setting ∙ c.load.ensures.setting ∙ c.in_ok-case.ensures.1) in
    let t : view c.decide.new.case ≡ decided S c.args.self.steps (loading S.model_mark S.clock_mark (opened 1) c.args.self.bytes.now).state = search rules in
    IfOk-weaker c.report_of.result _ _
    (λ r p. decided_report S (g.met.C.Clock.forward c.args.setting.clock) c.args.self.bytes.now c.args.self.steps r c.in-Ok.field-0 (search rules) (subst (λ x. Shows S x r) t (subst (λ x. Shows x (view c.decide.new.case) r) same p.0)) (p.1 ∙ ap Ok (c.verdict.ensures ∙ ap verdict_at (c.stage.ensures ∙ ap (λ s. s.stage) t))))
    c.report_of.ensures

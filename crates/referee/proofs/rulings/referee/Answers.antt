use Rattle.std.proofs.Common.{rules, ◌≡◌, length, Ok, Result, subst}
use Rattle.memory.specs.declared.verdicts.Verdict.{Verdict}
use Rattle.memory.specs.Settings.{setting_lent}
use Rattle.referee.specs.declared.faults.RefereeFault.{RefereeFault}
use Rattle.referee.specs.Ruling.{ruling}
use Rattle.referee.specs.Truth.{TrueOf}
use Rattle.referee.proofs.Truth.{entries_few, ruling_sound}
use Rattle.referee.proofs.rulings.referee.Goals as goal

pub judge_paper-requires-clause-few : goal.judge_paper-requires-clause-few
judge_paper-requires-clause-few g c = rw c.entries.ensures (entries_few g.M.Model.MARK g.C.Clock.MARK c.args.run.now c.over-records.ensures.entries c.in_ok-read_run.ensures.read)

pub returns-clause-truth : goal.returns-clause-truth
returns-clause-truth g c =
    let S = setting_lent g.M.Model g.C.Clock c.args.setting in
    let r = ruling S (length c.args.records.now) (length c.args.lines.now) c.args.run.now c.args.paper.now in
    let answer : ◌≡◌ {A = Result Verdict RefereeFault} r.answer (Ok c.in_ok-judge_paper.field-0) = search rules in
    subst (TrueOf S r.records c.args.paper.now) answer (ruling_sound _ _ _ _ _).truth

pub returns-in_err-read_run-clause-lawful : goal.returns-in_err-read_run-clause-lawful
returns-in_err-read_run-clause-lawful g c = (ruling_sound _ _ _ _ _).lawful

pub returns-in_err-judge_paper-clause-lawful : goal.returns-in_err-judge_paper-clause-lawful
returns-in_err-judge_paper-clause-lawful g c = (ruling_sound _ _ _ _ _).lawful

pub returns-clause-lawful : goal.returns-clause-lawful
returns-clause-lawful g c = (ruling_sound _ _ _ _ _).lawful

pub returns-in_err-judge_paper-clause-founded : goal.returns-in_err-judge_paper-clause-founded
returns-in_err-judge_paper-clause-founded g c = (ruling_sound _ _ _ _ _).founded

pub returns-clause-founded : goal.returns-clause-founded
returns-clause-founded g c = (ruling_sound _ _ _ _ _).founded

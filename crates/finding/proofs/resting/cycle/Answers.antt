use Rattle.std.proofs.Common.{Result, Ok, Err, IfOk, sym, subst}
use Rattle.finding.specs.Marks.{MarksNeeded}
use Rattle.finding.specs.Resting.{AreNeeded}
use Rattle.finding.proofs.Kept.{stand_alone, ends_opposed}
use Rattle.finding.proofs.Numbers.{are_needed, needed_all_within}
use Rattle.finding.proofs.resting.cycle.Goals as goal

-- what holds of each value that has another fact holds of the value, if there is one
on_ok : {T E : Type 0} (r : Result T E) (P Q : T → Type 0) → ((v : T) → P v → Q v) → IfOk r P → IfOk r Q
on_ok (Ok v) P Q f h = f v h
on_ok (Err e) P Q f h = h

pub returns-clause-needed : goal.returns-clause-needed
returns-clause-needed c =
    let rs = c.args.records.now in
    let ls = c.args.lines.now in
    let marks : MarksNeeded rs ls c.deref.result.now = subst (MarksNeeded rs ls) (sym c.deref.ensures.value) c.in_ok-marks.ensures in
    on_ok c.marked_lines.result _ _ (λ v e. subst (AreNeeded rs ls) (sym e) (are_needed rs ls c.deref.result.now marks)) c.marked_lines.ensures

pub returns-clause-within : goal.returns-clause-within
returns-clause-within c = on_ok c.marked_lines.result _ _ (λ v h. needed_all_within c.args.records.now c.args.lines.now v.items h) (returns-clause-needed c)

pub returns-clause-founded : goal.returns-clause-founded
returns-clause-founded c = on_ok c.marked_lines.result _ _ (λ v h. stand_alone c.args.records.now c.args.lines.now v.items h) (returns-clause-needed c)

pub returns-clause-opposed : goal.returns-clause-opposed
returns-clause-opposed c = on_ok c.marked_lines.result _ _ (λ v h. ends_opposed c.args.records.now c.args.lines.now v.items h) (returns-clause-needed c)

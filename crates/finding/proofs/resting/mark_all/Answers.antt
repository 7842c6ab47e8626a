use Rattle.std.proofs.Common.{◌≡◌, ◌+◌, ◌-◌, ◌<◌, true, subst, arith, rules}
use Rattle.finding.specs.Marks.{marked, MarksPremises}
use Rattle.finding.proofs.Marks.{closes_marked}
use Rattle.finding.proofs.resting.mark_all.Goals as goal

pub loop-index-preserved-then-marks-index : goal.loop-index-preserved-then-marks-index
loop-index-preserved-then-marks-index c =
    let rs = c.args.records.now in
    let ls = c.args.lines.now in
    let n = c.loop-index.index in
    let ms = c.loop-index.marks in
    let ns = c.mark_premises.new.marks in
    let some : 0 < n = omega arith in
    let here : n - 1 + 1 ≡ n = omega arith in
    let is : marked ms n ≡ true = search rules in
    closes_marked rs ls c.args.marks.now ms ns n some c.loop-index.invariant is (subst (λ k. MarksPremises rs ls k ms ns) here c.mark_premises.ensures)

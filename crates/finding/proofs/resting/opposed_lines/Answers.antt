use Rattle.std.proofs.Common.{◌≡◌, ◌-◌, true, length, List, Bool, set, ap, ◌∙◌}
use Rattle.finding.proofs.Marks.{none_marked, marks_none, marks_two}
use Rattle.finding.proofs.resting.opposed_lines.Goals as goal
use Rattle.finding.proofs.resting.opposed_lines.Goals.{in-Some, in_default}

pub returns : goal.returns
returns c =
    let ls = c.args.lines.now in
    let ms = c.match-opposed_to_last.marks.items in
    let unmarked : c.in_ok-marks.marks.items ≡ none_marked ls = c.in_ok-marks.ensures.items_if_clones_equal (λ y e. e) in
    elim c.match-opposed_to_last.branch [
      | in-Some w ↦ marks_two ls ms w.in-Some.opposed w.in-Some.ensures (ap (λ v. v.items) w.marks-is ∙ ap (λ (xs : List Bool). set (set xs (w.in-Some.opposed - 1) true) (length ls - 1) true) unmarked)
      | in_default w ↦ marks_none ls ms w.in_default.ensures (ap (λ v. v.items) w.marks-is ∙ unmarked)
    ]

use Rattle.std.proofs.Common.{◌≡◌, List, Bool, length, subst, sym, rules}
use Rattle.finding.specs.Marks.{ClosesMarks, MarksNeeded}
use Rattle.finding.proofs.Marks.{marks_needed}
use Rattle.finding.proofs.Numbers.{written_over}
use Rattle.finding.proofs.resting.needed_lines.Goals as goal

pub returns : goal.returns
returns c =
    let rs = c.args.records.now in
    let ls = c.args.lines.now in
    let first = c.in_ok-marks.marks.items in
    let ms = c.mark_all.new.marks in
    let closes : ClosesMarks rs ls 0 first ms = subst (λ (xs : List Bool). ClosesMarks rs ls 0 xs ms) c.deref_mut.ensures.value c.mark_all.ensures in
    let e : length ms ≡ length first = search rules in
    let needed : MarksNeeded rs ls ms = marks_needed rs ls first ms c.in_ok-marks.ensures closes e in
    subst (MarksNeeded rs ls) (sym (written_over c.in_ok-marks.marks.len first ms e (search rules))) needed

use Rattle.std.proofs.Common.{◌≡◌, ◌+◌, true, false, [], ◌∷◌, ◌++◌, sym, ap, ◌∙◌, rules}
use Rattle.finding.specs.Marks.{marked}
use Rattle.finding.proofs.Numbers.{marked_here, unmarked_here}
use Rattle.finding.proofs.resting.marked_lines.Goals as goal
use Rattle.finding.proofs.resting.marked_lines.Goals.{then-is_marked+in_ok-push, else-is_marked}

pub loop-index-preserved : goal.loop-index-preserved
loop-index-preserved c =
    let ms = c.args.marks.now in
    let n = c.loop-index.index in
    elim c.if-is_marked.branch [
      | then-is_marked+in_ok-push w ↦
          let is : marked ms (n + 1) ≡ true = search rules in
          let pushed : c.if-is_marked.numbers.items ≡ c.loop-index.numbers.items ++ (n + 1) ∷ [] = search rules in
          pushed ∙ ap (λ xs. xs ++ (n + 1) ∷ []) c.loop-index.invariant ∙ sym (marked_here ms n is)
      | else-is_marked w ↦
          let is : marked ms (n + 1) ≡ false = search rules in
          ap (λ v. v.items) w.numbers-is ∙ c.loop-index.invariant ∙ sym (unmarked_here ms n is)
    ]

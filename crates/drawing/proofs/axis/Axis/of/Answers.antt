use Rattle.std.proofs.lemmas.List.Filters.{dedup_is}
use Rattle.std.proofs.lemmas.List.Kept.{Contains-dedup_nat, Contains-from_dedup}
use Rattle.std.proofs.lemmas.List.Sorted.{Contains-permutation, IsPermutation-sym}
use Rattle.std.proofs.lemmas.Map.Keys.{IsStrictlyIncreasing-dedup}
use Rattle.drawing.proofs.Columns.{keeps_time, each_column}
use Rattle.drawing.proofs.axis.Axis.of.Goals as goal

pub returns-clause-time : goal.returns-clause-time
returns-clause-time c =
    let is = dedup_is _ _ _ c.dedup.ensures.filtered in
    keeps_time _ (record { readings = c.dedup.new.self })
    (λ x h. rw is (Contains-dedup_nat _ x (Contains-permutation _ _ x c.in_ok-sort.ensures.permutation (rw c.in_ok-readings.ensures h))))

pub returns-clause-columns : goal.returns-clause-columns
returns-clause-columns c =
    let is = dedup_is _ _ _ c.dedup.ensures.filtered in
    each_column _ (record { readings = c.dedup.new.self })
    (λ x h. rw c.in_ok-readings.ensures at (Contains-permutation _ _ x (IsPermutation-sym _ _ c.in_ok-sort.ensures.permutation) (Contains-from_dedup _ _ x (rw is at h))))
    (rw is (IsStrictlyIncreasing-dedup _ c.in_ok-sort.ensures.sorted))

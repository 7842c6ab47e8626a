use Rattle.std.proofs.Common.{◌≡◌, map, drop}
use Rattle.memory.specs.Settings.{setting_of}
use Rattle.case.specs.Views.{view}
use Rattle.checker.specs.History.{admit, after}
use Rattle.worked.proofs.admit_all.Given as goal

-- the entries that are left lead from here to where all of them lead from the beginning
abbrev pub invariant-loop-e : goal.invariant-loop-e
invariant-loop-e g l =
    let S = setting_of g.M.Model g.C.Clock l.initial.case.setting in
    (l.case.setting ≡ l.initial.case.setting) × (after S (view l.case) (map admit (drop l.e-index l.entries)) ≡ after S (view l.initial.case) (map admit l.entries))

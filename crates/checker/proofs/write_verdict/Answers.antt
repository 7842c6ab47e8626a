use Rattle.std.proofs.Common.{ℕ, List, Ok, subst, rules}
use Rattle.case.specs.State.{State}
use Rattle.case.specs.Calls.{slip_in, paper_in, Wrote}
use Rattle.case.specs.Views.{view}
use Rattle.checker.proofs.Room.{paper_front, joined}
use Rattle.checker.proofs.write_verdict.Goals as goal

pub returns : goal.returns
returns g c =
    let s : State = view c.args.case.now in
    let out : List ℕ = c.write_slip.new.out in
    let slip : ℕ = c.unwrap-slip.result in
    let told : Wrote s (slip_in s) c.args.room.now out (Ok slip) = subst (λ r. Wrote s (slip_in s) c.args.room.now out r) c.unwrap-slip.ensures c.write_slip.ensures in
    let paper = paper_front s (paper_in g.M.Model.MARK g.C.Clock.MARK s) _ _ _ _ c.unwrap_or-paper.ensures (search rules) c.write_paper.ensures.wrote in
    joined slip c.unwrap_or-paper.result _ out c.write_paper.new.out (slip_in s) _ _ paper.0 told.2 told.0 paper.1 paper.2

use Rattle.std.proofs.Common.{◌≡◌, ℕ, ◌≤◌, List, sym, ap, ◌∙◌, subst}
use Rattle.memory.specs.declared.lines.Line.{Line}
use Rattle.memory.specs.Runs.{Run, run_of}
use Rattle.memory.specs.Settings.{setting_lent}
use Rattle.inference.specs.Listing.{Lists, list_lines}
use Rattle.inference.specs.Views.{lines_of, run_is}
use Rattle.inference.proofs.Onward.{lists, lists_out}
use Rattle.inference.proofs.lines.Lines.infer.Goals as goal

pub returns : goal.returns
returns g c =
    let R : Run = run_of (setting_lent g.M.Model g.C.Clock c.args.setting) c.args.records.now in
    let k : ℕ = c.args.k in
    let ls : List Line = lines_of c.args.self.now in
    let same : run_is c.in_ok-run.run' ≡ R = λ i. run_of (setting_lent g.M.Model g.C.Clock (c.in_ok-run.ensures.0 i)) (c.in_ok-run.ensures.1 i).now in
    let is = c.list_up_to.ensures ∙ ap (λ S. list_lines S k ls) same in
    let l : Lists R k ls _ = subst (Lists R k ls) (sym is) (lists R k ls) in
    let few : R.size ≤ 64 = subst (λ S. S.size ≤ 64) same c.in_ok-run.run'.few in
    record { value = (few, is); lists = l; out = lists_out l }

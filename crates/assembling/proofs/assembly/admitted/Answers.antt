use Rattle.std.proofs.Common.{sym, ◌∙◌, ap, subst}
use Rattle.assembling.specs.Assembly.{admitted, IsRefusal}
use Rattle.assembling.specs.declared.troubles.Unassembled.TheVariants.{Log}
use Rattle.assembling.proofs.Admission.{stops_there}
use Rattle.assembling.proofs.assembly.admitted.Goals as goal

pub returns-in-Err : goal.returns-in-Err
returns-in-Err c =
    let accesses = c.args.accesses.now in
    let stopped = stops_there c.args.processors c.loop-access.records.items accesses c.loop-access.access-index _ c.loop-access-test.true c.in-Err.refusal (rw c.deref.ensures.value at (sym c.judge.ensures.value ∙ c.in-Err.is)) in
    let is = sym c.loop-access.invariant ∙ stopped in
    let told = c.into.ensures ∙ ap Log (rw (c.len.ensures, c.loop-access.records.ok.0) at c.refused_behind-bad.ensures) in
    subst (IsRefusal (admitted c.args.processors _ accesses)) (sym told) is

use Rattle.std.proofs.Common.{arith, vec_len}
use Rattle.inference.specs.Views.{lines_of}
use Rattle.case.proofs.Listed.{still_paired}
use Rattle.case.proofs.cases.Held.infer.Goals as goal

pub invariant_of-self-inside : goal.invariant_of-self-inside
invariant_of-self-inside g c =
    let held = c.self.inside in
    (held.room, (held.few, (held.opened, (held.lawful, (held.sized, (still_paired _ _ (vec_len held.records) (lines_of held.lines) _ c.infer.result _ c.unwrap-listed.ensures c.infer.ensures.lists (omega (arith, c.deref.ensures.len)) held.pairs, (held.apart, tt)))))))

use Rattle.std.proofs.Common.{◌≡◌, List, [], true, Ok, vec_items, vec_len, arith, rules}
use Rattle.memory.specs.declared.records.Record.{Record}
use Rattle.memory.specs.Admission.{judgement, admits, sized as all_sized}
use Rattle.memory.proofs.Admitted.{admits_more, sized_more}
use Rattle.inference.specs.Paired.{paired}
use Rattle.inference.specs.Views.{lines_of}
use Rattle.inference.proofs.Pairs.{paired_more}
use Rattle.search.specs.Placing.{distinct}
use Rattle.search.specs.Views.{standing_of}
use Rattle.search.proofs.Distinct.{distinct_more}
use Rattle.case.proofs.cases.Held.admit_lawful.Goals as goal

pub invariant_of-self-inside : goal.invariant_of-self-inside
invariant_of-self-inside c =
    let self = c.self.inside in
    let rs : List Record = vec_items self.records in
    let r : Record = c.in_ok-record.record in
    let j : judgement self.processors rs c.args.e ≡ Ok r = rw (← c.deref.ensures.value, ← c.in_ok-record.ensures.value) in
    let more : List Record = vec_items c.push_reserved.new.self in
    let lawful : admits self.processors [] more ≡ true = rw c.push_reserved.ensures.items (admits_more self.processors rs c.args.e r self.lawful j) in
    let sized : all_sized more ≡ true = rw c.push_reserved.ensures.items (sized_more self.processors rs c.args.e r self.sized j (search rules) (search rules)) in
    let pairs : paired (vec_len c.push_reserved.new.self) (lines_of self.lines) ≡ true = paired_more (vec_len self.records) _ (omega (arith, c.push_reserved.ensures.len)) (lines_of self.lines) self.pairs in
    let apart : distinct (vec_len c.push_reserved.new.self) (standing_of self.search).placed ≡ true = distinct_more (vec_len self.records) _ (omega (arith, c.push_reserved.ensures.len)) (standing_of self.search).placed self.apart in
    (search rules, (search rules, (self.opened, (lawful, (sized, (pairs, (apart, tt)))))))

use Rattle.std.proofs.Common.{◌≡◌, [], ◌∷◌, arith, ap, length-append, rules}
use Rattle.wire.specs.Bytes.{field}
use Rattle.wire.specs.Written.{paper_number, paper_body}
use Rattle.wire.proofs.Pens.{written, put_put, put_as}
use Rattle.wire.proofs.writing.write_paper.Goals as goal

pub returns : goal.returns
returns c =
    let h = c.args.head in
    let number : c.verdict_number-number.result ≡ paper_number c.args.paper = search rules in
    let first = put_as (ap (λ v. field 16 (v ∷ h.model ∷ h.clock ∷ h.records ∷ [])) number) c.put_field.ensures in
    written _ _ _ c.over-pen.ensures.start c.over-pen.ensures.bytes (put_put first (put_put c.put_body.ensures c.put_field-2.ensures)) (omega (arith, length-append (paper_body c.args.paper) (field 31 []))) c.written.ensures (search rules)

use Rattle.std.proofs.Common.{◌∷◌, [], sym, ap, ◌∙◌}
use Rattle.wire.proofs.Digits.{digits_4, digits_8}
use Rattle.wire.proofs.Pens.{put_put, put_as}
use Rattle.wire.proofs.writing.RecordEncode.put.Goals as goal

pub returns : goal.returns
returns c =
    let r = c.args.self in
    let one = put_as (ap (λ k. r.processor ∷ k ∷ []) c.from.ensures) c.put.ensures in
    let two = put_as (c.to_be_bytes.ensures ∙ sym (digits_4 r.address)) c.put-2.ensures in
    let three = put_as (c.to_be_bytes-2.ensures ∙ sym (digits_8 r.value)) c.put-3.ensures in
    let four = put_as (c.to_be_bytes-3.ensures ∙ sym (digits_8 r.enter)) c.put-4.ensures in
    let five = put_as (c.to_be_bytes-4.ensures ∙ sym (digits_8 r.commit)) c.put-5.ensures in
    put_put one (put_put two (put_put three (put_put four five)))

use Rattle.std.proofs.Common.{◌+◌, ◌<◌, ◌++◌, [], length, rules, arith, length-append, ap}
use Rattle.wire.specs.Bytes.{field, all_of, record_field}
use Rattle.wire.proofs.InOrder.{records_long}
use Rattle.wire.proofs.Pens.{written, put_put}
use Rattle.wire.proofs.writing.write_run.Goals as goal

pub returns-in_err-check_room : goal.returns-in_err-check_room
returns-in_err-check_room c = let h = c.in_err-check_room.ensures in let l = records_long c.args.records.now in let k = length-append (all_of record_field c.args.records.now) (field 3 []) in let few : length c.args.out.now < 6 + length (all_of record_field c.args.records.now ++ field 3 []) = omega (arith, l, k, h) in search (rules, few)

pub write_all-requires : goal.write_all-requires
write_all-requires c = omega (arith, records_long c.args.records.now, c.put_field.ensures.long, c.put_field.ensures.at, ap length c.over-pen.ensures.bytes)

pub put_field-requires-2 : goal.put_field-requires-2
put_field-requires-2 c = omega (arith, records_long c.args.records.now, c.write_all.ensures.long, c.write_all.ensures.at, c.put_field.ensures.long, c.put_field.ensures.at, ap length c.over-pen.ensures.bytes)

pub returns : goal.returns
returns c =
    let rs = c.args.records.now in
    written _ _ _ c.over-pen.ensures.start c.over-pen.ensures.bytes (put_put c.put_field.ensures (put_put c.write_all.ensures c.put_field-2.ensures)) (omega (arith, length-append (all_of record_field rs) (field 3 []), records_long rs)) c.written.ensures (search rules)

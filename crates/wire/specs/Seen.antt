-- What a field of the code is, and what reading one does.
use Rattle.std.specs.Prelude.{◌≡◌, ◌+◌, List, [], ◌++◌, length, drop, Ok, Err, Result}
use Rattle.wire.specs.declared.faults.ByteFault.{ByteFault}
use Rattle.wire.specs.declared.fields.Field.{Field}
use Rattle.wire.specs.declared.fields.Field.TheVariants.{Head, Record, Line, Order, Orphan, End}
use Rattle.wire.specs.declared.fields.Part.{Part}
use Rattle.wire.specs.declared.fields.Reader.{Reader}
use Rattle.wire.specs.Bytes.{field}
use Rattle.wire.specs.Fields.{Piece, pieces, Sort, head_field, record_field, line_field, order_field, orphan_field, end_field, tag_of, Shown, later}

abbrev pub part_of : Sort → Part → Shown
part_of s p = record { sort = s; place = p.place; content = p.content.now }

abbrev pub shown : Field → Shown
shown (Head p) = part_of head_field p
shown (Record p) = part_of record_field p
shown (Line p) = part_of line_field p
shown (Order p) = part_of order_field p
shown (Orphan p) = part_of orphan_field p
shown (End place) = record { sort = end_field; place = place; content = [] }

abbrev pub seen : Result Field ByteFault → Result Shown ByteFault
seen (Ok f) = Ok (shown f)
seen (Err e) = Err e

-- the fields that a reader has left
abbrev pub left : Reader → List Piece
left r = pieces (drop r.at r.bytes.now)

-- a reader that has read a field: the field's bytes stand between its two places, and the other fields are left
pub record Passed (before after : Reader) (f : Shown) : Type 0 where
  pub place : f.place ≡ before.at
  pub moved : after.at ≡ before.at + 3 + length f.content
  pub rest : left after ≡ later (left before)
  pub bytes : drop before.at before.bytes.now ≡ field (tag_of before.text f.sort) f.content ++ drop after.at before.bytes.now

-- The tags of fields.
use Rattle.std.specs.Prelude.{ℕ, cond, Some, None, Option, ◌==◌}
use Rattle.wire.specs.declared.tags.Tag.{Tag}
use Rattle.wire.specs.declared.tags.Tag.TheVariants.{RunHead, Record, RunEnd, PaperHead, Line, Order, Orphan, Slip, Notice, PaperEnd}

abbrev pub run_head_tag : ℕ
run_head_tag = 0x01

abbrev pub record_tag : ℕ
record_tag = 0x02

abbrev pub run_end_tag : ℕ
run_end_tag = 0x03

abbrev pub paper_head_tag : ℕ
paper_head_tag = 0x10

abbrev pub line_tag : ℕ
line_tag = 0x11

abbrev pub order_tag : ℕ
order_tag = 0x12

abbrev pub orphan_tag : ℕ
orphan_tag = 0x13

abbrev pub slip_tag : ℕ
slip_tag = 0x1d

abbrev pub notice_tag : ℕ
notice_tag = 0x1e

abbrev pub paper_end_tag : ℕ
paper_end_tag = 0x1f

abbrev pub tag_number : Tag → ℕ
tag_number RunHead = run_head_tag
tag_number Record = record_tag
tag_number RunEnd = run_end_tag
tag_number PaperHead = paper_head_tag
tag_number Line = line_tag
tag_number Order = order_tag
tag_number Orphan = orphan_tag
tag_number Slip = slip_tag
tag_number Notice = notice_tag
tag_number PaperEnd = paper_end_tag

-- the tag with a number, if there is one
abbrev pub tag_at : ℕ → Option Tag
tag_at n =
    cond (n == run_head_tag) (Some RunHead)
    (cond (n == record_tag) (Some Record)
    (cond (n == run_end_tag) (Some RunEnd)
    (cond (n == paper_head_tag) (Some PaperHead)
    (cond (n == line_tag) (Some Line)
    (cond (n == order_tag) (Some Order)
    (cond (n == orphan_tag) (Some Orphan)
    (cond (n == slip_tag) (Some Slip)
    (cond (n == notice_tag) (Some Notice)
    (cond (n == paper_end_tag) (Some PaperEnd) None)))))))))

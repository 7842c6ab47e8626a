-- What is encoded, as a field. Assumes nothing.
use Rattle.std.specs.Prelude.{ℕ, List}
use Rattle.wire.specs.declared.writing.pen.Encode as encode
use Rattle.wire.specs.Bytes.{field, all_of}
use Rattle.wire.specs.Tags.{tag_number}

-- one, and several one after the other
abbrev pub encoded : {T : Type 0} → encode.Ghosts T → T → List ℕ
encoded e x = field (tag_number e.TAG) (e.bytes x)

abbrev pub all_encoded : {T : Type 0} → encode.Ghosts T → List T → List ℕ
all_encoded e xs = all_of (encoded e) xs

-- What is written into bytes of just the right number. Assumes nothing.
use Rattle.std.proofs.Common.{◌≡◌, ℕ, ◌+◌, ◌*◌, List, [], ◌++◌, length, take, drop, Ok, Err, Result, sym, ap, ◌∙◌, append-nil, arith, length-append}
use Rattle.std.proofs.lemmas.List.{take_at, drop_all}
use Rattle.memory.specs.declared.records.Record.{Record}
use Rattle.wire.specs.declared.writing.TooShort.{TooShort}
use Rattle.wire.specs.Bytes.{field, all_of, record_field, run_bytes}
use Rattle.wire.specs.Written.{Written}
use Rattle.wire.proofs.InOrder.{records_long}

-- they are filled
filled : (bs out after : List ℕ) (r : Result ℕ TooShort) → length out ≡ length bs → Written bs out after r → after ≡ bs
filled bs out after (Ok n) long w = w.2 ∙ ap (λ l. bs ++ l) (drop_all (length bs) out (omega (arith, long))) ∙ append-nil bs
filled bs out after (Err s) long w = absurd (omega (arith, w.0, long))

run_long : (p m k : ℕ) (rs : List Record) → length (run_bytes p m k rs) ≡ 9 + 33 * length rs
run_long p m k rs = omega (arith, length-append (all_of record_field rs) (field 3 []), records_long rs)

-- a run, written into as many bytes as it has
pub run_whole : (p m k : ℕ) (rs : List Record) (out after : List ℕ) (n : ℕ) (r : Result ℕ TooShort) → length out ≡ 9 + 33 * length rs → n ≡ 9 + 33 * length rs → Written (run_bytes p m k rs) out after r → take n (after ++ drop (length after) out) ≡ run_bytes p m k rs
run_whole p m k rs out after n r long room w =
    let is = filled (run_bytes p m k rs) out after r (long ∙ sym (run_long p m k rs)) w in
    take_at after (drop (length after) out) n (ap length is ∙ run_long p m k rs ∙ sym room) ∙ is

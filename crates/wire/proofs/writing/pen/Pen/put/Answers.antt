use Rattle.std.proofs.Common.{ℕ, List, ◌++◌, length, take, refl, sym, ap, ◌∙◌, arith}
use borrow.Rule.Slice.PartMut.{same_len_mid}
use Rattle.std.proofs.lemmas.List.{drop-drop}
use Rattle.std.proofs.lemmas.Slice.{take-put_mid, drop-put_mid}
use Rattle.wire.proofs.writing.pen.Pen.put.Goals as goal

pub returns : goal.returns
returns c =
    let xs : List ℕ = c.args.self.now.out.now in
    let at : ℕ = c.args.self.now.at in
    let bs : List ℕ = c.args.bytes.now in
    let same = c.copy_from_slice.ensures.after in
    record {
      same = refl;
      at = refl;
      long = same_len_mid at _ xs _ c.copy_from_slice.ensures.len;
      done = take-put_mid at _ xs _ _ (omega (arith, ap length same)) (omega arith) ∙ ap (λ l. take at xs ++ l) same;
      rest = drop-put_mid at _ xs _ _ (omega arith) (omega arith) (omega (arith, ap length same)) ∙ sym (drop-drop (length bs) at xs);
    }

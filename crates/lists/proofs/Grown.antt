-- A list that grows, entry after entry. Assumes nothing.
use Rattle.std.proofs.Common.{List, [], ◌++◌, length, drop, refl, sym, ap, ◌∙◌, append_assoc, append-nil, arith, length-append}
use Rattle.std.proofs.lemmas.List.{drop-drop, length-drop}
use Rattle.lists.specs.declared.lent.LentList.{LentList}
use Rattle.lists.specs.Lists.{entries, rest, Grown}

module _ {T : Type 0} where
  pub grown_none : (l : LentList T) → Grown l l []
  grown_none l = record { same = refl; entries = sym (append-nil (entries l)); room = omega arith; rest = refl }

  -- growing twice is growing once
  pub grown_more : {p q r : LentList T} {a b : List T} → Grown p q a → Grown q r b → Grown p r (a ++ b)
  grown_more {p} {q} {r} {a} {b} x y = record {
    same = y.same ∙ x.same;
    entries = y.entries ∙ ap (λ l. l ++ b) x.entries ∙ append_assoc (entries p) a b;
    room = omega (arith, x.room, y.room, ap length x.rest, length-drop (length a) (rest p), length-append a b);
    rest = y.rest ∙ ap (drop (length b)) x.rest ∙ drop-drop (length b) (length a) (rest p) ∙ ap (λ n. drop n (rest p)) (sym (length-append a b));
  }

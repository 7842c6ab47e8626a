-- Writes of a pen, one after the other. Assumes nothing.
use Rattle.std.proofs.Common.{◌≡◌, ℕ, ◌+◌, ◌<◌, ◌≤◌, List, [], ◌++◌, get_or, subst, length, take, drop, Ok, sym, ap, ◌∙◌, append_assoc, arith, length-append}
use Rattle.std.proofs.lemmas.List.{drop-drop, take-append-drop}
use Rattle.std.proofs.lemmas.List.Folds.{length-flat_map-take}
use Rattle.wire.specs.declared.writing.pen.Pen.{Pen}
use Rattle.wire.specs.Bytes.{all_of}
use Rattle.wire.specs.Written.{Written}
use Rattle.wire.specs.Pens.{done, rest, HasRoom, Put}
use Rattle.wire.proofs.InOrder.{fields_more}

-- the same bytes, said otherwise
pub put_as : {p q : Pen} {a b : List ℕ} → a ≡ b → Put p q a → Put p q b
put_as {p} {q} e x = subst (Put p q) e x

-- two writes are one
pub put_put : {p q r : Pen} {a b : List ℕ} → Put p q a → Put q r b → Put p r (a ++ b)
put_put {p} {q} {r} {a} {b} x y = record {
  same = y.same ∙ x.same;
  at = omega (arith, x.at, y.at, length-append a b);
  long = y.long ∙ x.long;
  done = y.done ∙ ap (λ l. l ++ b) x.done ∙ append_assoc (done p) a b;
  rest = y.rest ∙ ap (drop (length b)) x.rest ∙ drop-drop (length b) (length a) (rest p) ∙ ap (λ n. drop n (rest p)) (sym (length-append a b));
}

module _ {X : Type 0} (f : X → List ℕ) (p q : Pen) (xs : List X) (i : ℕ) (x : X) (lt : i < length xs) (is : x ≡ get_or xs i x) (front : Put p q (all_of f (take i xs))) where
  -- there is room for one element more
  pub room_more : HasRoom p (length (all_of f xs)) → HasRoom q (length (f x))
  room_more room = omega (arith, front.at, front.long, length-flat_map-take f xs i x lt, ap (λ y. length (f y)) is)

  -- one more
  pub put_more : (r : Pen) → Put q r (f x) → Put p r (all_of f (take (i + 1) xs))
  put_more r one = put_as (fields_more f xs i x lt is) (put_put front one)

-- what is written from the first byte on
pub written : {p q : Pen} {bs : List ℕ} (out after : List ℕ) (n : ℕ) → p.at ≡ 0 → p.out.now ≡ out → Put p q bs → length bs ≤ length out → n ≡ q.at → after ≡ q.out.now → Written bs out after (Ok n)
written {p} {q} {bs} out after n start whole x fits long is =
    let front : done p ≡ [] = ap (λ k. take k p.out.now) start in
    let back : rest p ≡ out = ap (λ k. drop k p.out.now) start ∙ whole in
    let all : q.out.now ≡ done q ++ rest q = sym (take-append-drop q.at q.out.now) in
    (omega (arith, x.at), fits, is ∙ all ∙ (let a = x.done ∙ ap (λ l. l ++ bs) front in let b = x.rest ∙ ap (drop (length bs)) back in λ i. a i ++ b i))

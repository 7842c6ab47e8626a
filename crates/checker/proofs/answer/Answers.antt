use Rattle.std.proofs.Common.{◌≡◌, ℕ, Bool, false, eqb, List, Option, Some, None, get_or, take, IfOk, vec_items, refl, sym, ap, ◌∙◌, subst}
use Rattle.std.specs.Option.{option_eq, unwrap_or}
use Rattle.std.specs.List.{slice_get}
use Rattle.std.proofs.lemmas.Option.{unwrap_or-slice_get}
use Rattle.checker.specs.Output.{output, served, answer_to}
use Rattle.checker.proofs.answer.Goals as goal

-- a byte that is not there marks no model, as 0 does
marked : (o : Option ℕ) → eqb (unwrap_or o 0) 3 ≡ option_eq eqb o (Some 3)
marked None = refl
marked (Some x) = refl

-- the model under which the bytes that count are read
under : (input bs : List ℕ) (o : Option ℕ) (b : Bool) → bs ≡ take 4096 input → o ≡ slice_get bs 4 → b ≡ option_eq eqb o (Some 3) → output (served b) bs ≡ answer_to input
under input bs o b is mark test =
    let read : b ≡ eqb (get_or bs 4 0) 3 = test ∙ ap (λ p. option_eq eqb p (Some 3)) mark ∙ sym (marked (slice_get bs 4)) ∙ ap (λ k. eqb k 3) (unwrap_or-slice_get bs 4 0) in
    ap (λ t. output (served t) bs) read ∙ ap (λ l. output (served (eqb (get_or l 4 0) 3)) l) is

pub returns-else-eq : goal.returns-else-eq
returns-else-eq c =
    subst (λ o. IfOk c.check-else-eq.result (λ v. vec_items v ≡ o)) (under c.args.input.now _ _ false c.counted-bytes.ensures c.model_mark.ensures (sym c.if-eq.false ∙ c.eq.ensures)) c.check-else-eq.ensures.bytes

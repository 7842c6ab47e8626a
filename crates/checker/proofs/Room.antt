-- Slip and paper fit, one behind the other. Assumes nothing.
use Rattle.std.proofs.Common.{◌≡◌, ℕ, ◌+◌, ◌≤◌, List, [], ◌++◌, length, take, drop, Some, None, Ok, Err, Option, Result, refl, sym, ap, ◌∙◌, rules, arith}
use borrow.Rule.Slice.PartMut.{put_mid, post_of}
use Rattle.std.specs.Option.{unwrap_or}
use Rattle.std.specs.Result.{result_unwrap_or}
use Rattle.std.proofs.lemmas.List.{take_at, length-append, append_assoc}
use Rattle.memory.specs.declared.refusals.Fault.{Fault}
use Rattle.case.specs.State.{State}
use Rattle.case.specs.Calls.{WroteSome}

-- with room for the paper, it stands in front, if there is one, and n bytes were written
pub paper_front : (s : State) (o : Option (List ℕ)) (out after : List ℕ) (r : Result ℕ Fault) (n : ℕ) → n ≡ result_unwrap_or r 0 → length (unwrap_or o []) ≤ length out → WroteSome s o out after r → (rest : List ℕ) × (after ≡ unwrap_or o [] ++ rest) × (n ≡ length (unwrap_or o []))
paper_front s None out after r n is room w = (after, refl, is ∙ ap (λ x. result_unwrap_or x 0) w.0)
paper_front s (Some bs) out after (Ok m) n is room w = (drop (length bs) out, w.2, is ∙ w.0)
paper_front s (Some bs) out after (Err f) n is room w = absurd (omega (arith, w.0, room))

-- one list stands before another, which was written into the part behind it
pub joined : (at n k : ℕ) (out after first second rest more : List ℕ) → out ≡ first ++ rest → at ≡ length first → after ≡ second ++ more → n ≡ length second → take (at + n) (put_mid at k out after) ≡ first ++ second
joined at n k out after first second rest more is long then_is then_long =
    let front : take at out ≡ first = ap (take at) is ∙ take_at first rest at (sym long) in
    let behind : List ℕ = post_of at k out in
    let all : put_mid at k out after ≡ (first ++ second) ++ (more ++ behind) = ap (λ l. l ++ (after ++ behind)) front ∙ ap (λ l. first ++ (l ++ behind)) then_is ∙ ap (λ l. first ++ l) (append_assoc second more behind) ∙ sym (append_assoc first second (more ++ behind)) in
    ap (take (at + n)) all ∙ take_at (first ++ second) (more ++ behind) (at + n) (search (rules, length-append))

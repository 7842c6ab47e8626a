use Rattle.std.proofs.Common.{ℕ, ◌<◌, List, get_or, arith, sym, ◌∙◌}
use Rattle.wire.proofs.Digits.{number_8}
use Rattle.histories.proofs.Fronts.{joined}
use Rattle.histories.proofs.invocations.count_in.Goals as goal

pub returns : goal.returns
returns c =
    let bs : List ℕ = c.args.bytes.now in
    let small : (i : ℕ) → get_or bs i 0 < 256 = λ i. (c.type_inv.bytes i).fits in
    let f = c.in_ok-front.ensures.cases in
    let number = number_8 bs c.in_ok-front.front.now 0 _ small f.0 (omega (arith, f.2)) c.from_be_bytes.type_inv c.from_be_bytes.ensures in
    joined bs _ _ _ 8 f.0 f.1 (number.back ∙ sym f.0)

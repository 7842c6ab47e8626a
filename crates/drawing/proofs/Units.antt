-- The units of columns.
use Rattle.std.proofs.Common.{◌≡◌, ℕ, ◌+◌, ◌-◌, ◌*◌, ◌/◌, ◌^◌, ◌<◌, ◌≤◌, min, max, ap, ◌∙◌, arith}
use Rattle.std.proofs.lemmas.Nat.{le-div}
use Rattle.std.proofs.Math.Nat.{div-mul-le_self, div-le_of_le-mul}
use Rattle.drawing.specs.Geometry.{share_of, KeepsApart}

-- where there are 640 units for so many columns or fewer, one column more is one unit more at least
shares_rise : (last a b : ℕ) → a < b → b ≤ last → last ≤ 640 → 640 * a / last < 640 * b / last
shares_rise last a b lt in_it few =
    let next : (640 * a / last + 1) * last ≤ 640 * b = omega (arith, div-mul-le_self (640 * a) last, lt, few) in
    omega (arith, le-div (640 * a / last + 1) (640 * b) last (omega (arith, lt, in_it)) next)

-- there, a share is neither cut short nor too large to count
share_is : (last a : ℕ) → 0 < last → a ≤ last → last ≤ 640 → share_of 640 a last ≡ 640 * a / last
share_is last a some in_it few =
    let counted : min (640 * a) (2 ^ 64 - 1) ≡ 640 * a = omega (arith, in_it, few) in
    let parts : max last 1 ≡ last = omega (arith, some) in
    let is : min (640 * a) (2 ^ 64 - 1) / max last 1 ≡ 640 * a / last = ap (λ n. n / max last 1) counted ∙ ap (λ n. 640 * a / n) parts in
    let short : 640 * a / last ≤ 640 = div-le_of_le-mul last (omega (arith, in_it)) in
    omega (arith, is, short)

pub keeps_apart : (last : ℕ) → KeepsApart last
keeps_apart last = λ a b lt in_it few.
    let some : 0 < last = omega (arith, lt, in_it) in
    omega (arith, share_is last a some (omega (arith, lt, in_it)) few, share_is last b some in_it few, shares_rise last a b lt in_it few)

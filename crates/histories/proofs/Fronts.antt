-- Numbers at the front of bytes. Assumes nothing.
use Rattle.std.proofs.Common.{◌≡◌, ℕ, ◌^◌, ◌<◌, ◌≤◌, List, ◌++◌, length, get_or, take, drop, sym, ap, ◌∙◌, ⊎_elim, arith, length-take-le}
use Rattle.std.proofs.lemmas.List.{length-take, get_or-take, get_or_past, take-append-drop}
use Rattle.std.proofs.lemmas.Bool.{cases_lt}
use Rattle.std.proofs.lemmas.Nat.{be_bytes_2}
use Rattle.std.specs.Int.{w16, from_be_bytes}
use Rattle.wire.specs.Bytes.{digits, number_on}
use Rattle.wire.proofs.Digits.{Number, digits_back}

-- bytes that are the first of these, and those behind them, are these
pub joined : (bs front rest written : List ℕ) (w : ℕ) → front ≡ take w bs → rest ≡ drop w bs → written ≡ front → bs ≡ written ++ rest
joined bs front rest written w first behind is =
    sym (take-append-drop w bs) ∙ (λ i. (sym (is ∙ first)) i ++ (sym behind) i)

front_small : (c : List ℕ) (w : ℕ) → ((i : ℕ) → get_or c i 0 < 256) → (i : ℕ) → get_or (take w c) i 0 < 256
front_small c w small i =
    ⊎_elim
    (λ lt. omega (arith, get_or-take w c i 0 lt, small i))
    (λ ge. omega (arith, get_or_past (take w c) i 0 (omega (arith, length-take w c))))
    (cases_lt i w)

-- the number that the first 2 bytes write
pub number_2 : (c bs : List ℕ) (n : ℕ) → ((i : ℕ) → get_or c i 0 < 256) → bs ≡ take 2 c → 2 ≤ length c → n < 2 ^ 16 → n ≡ from_be_bytes w16 bs → Number c 0 2 n
number_2 c bs n small is fits h read =
    let long : length bs ≡ 2 = ap length is ∙ length-take-le 2 c fits in
    let small_bs : (i : ℕ) → get_or bs i 0 < 256 = λ i. omega (arith, ap (λ xs. get_or xs i 0) is, front_small c 2 small i) in
    let back : digits 2 n ≡ take 2 c = be_bytes_2 bs n long small_bs read ∙ is in
    record { value = sym (digits_back 2 n h) ∙ ap (number_on 0) back; back = back }

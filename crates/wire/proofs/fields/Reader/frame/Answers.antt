use Rattle.std.proofs.Common.{◌≡◌, ℕ, ◌+◌, ◌*◌, List, length, get_or, take, refl, sym, ap, ◌∙◌, arith, rules}
use Rattle.std.proofs.lemmas.Slice.{between_to_end, between_from_start}
use Rattle.wire.proofs.Walk.{three, few, framed, unframed}
use Rattle.wire.proofs.fields.Reader.frame.Goals as goal

pub returns-in_err-front : goal.returns-in_err-front
returns-in_err-front c =
    let bs : List ℕ = c.args.self.now.bytes.now in
    let at : ℕ = c.args.self.now.at in
    rw c.from_residual.ensures (few bs at (omega (arith, ap length (between_to_end bs at (length bs) (omega arith)), c.in_err-front.ensures.cases)))

pub returns-in_err-content : goal.returns-in_err-content
returns-in_err-content c =
    let bs : List ℕ = c.args.self.now.bytes.now in
    let at : ℕ = c.args.self.now.at in
    let cases = c.in_ok-front.ensures.cases in
    let is = sym (between_to_end bs at (length bs) (omega arith)) ∙ three _ _ _ (omega (arith, cases.2)) cases.0 cases.1 in
    rw c.from_residual-in_err-content.ensures (unframed bs at _ _ _ _ is (omega (arith, c.from.ensures, c.from_be_bytes-size.ensures, c.in_err-content.ensures.lookup.0)))

pub returns : goal.returns
returns c =
    let bs : List ℕ = c.args.self.now.bytes.now in
    let at : ℕ = c.args.self.now.at in
    let f : List ℕ = c.in_ok-front.front.now in
    let cases = c.in_ok-front.ensures.cases in
    let is = sym (between_to_end bs at (length bs) (omega arith)) ∙ three _ _ _ (omega (arith, cases.2)) cases.0 cases.1 in
    let got = c.in_ok-content.ensures.lookup.0 in
    let size : c.from.result ≡ get_or f 1 0 * 256 + get_or f 2 0 = c.from.ensures ∙ c.from_be_bytes-size.ensures in
    (framed bs at _ _ _ _ is _ (got.2 ∙ between_from_start _ _ ∙ ap (λ n. take n c.in_ok-front.rest.now) size) (omega (arith, got.1)) (search rules) (search rules), refl)

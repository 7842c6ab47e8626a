-- What the exit of a `?` answers. Assumes nothing.
use Rattle.std.proofs.Common.{◌≡◌, Err, Result, ap, ◌∙◌}
use Rattle.std.specs.Result.{IsErrAnd}
use Rattle.std.proofs.lemmas.Result.{err_from_is_err_and}

pub fell_with : {T E : Type 0} {e : E} {r : Result T E} → IsErrAnd r (λ x. x ≡ e) → r ≡ Err e
fell_with {r} is = let p = err_from_is_err_and r is in p.1 ∙ ap Err p.2

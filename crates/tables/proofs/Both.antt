-- What two facts say together of a result.
use Rattle.std.proofs.Common.{Result, Ok, Err, IfOk}

pub both : {T E : Type 0} (x : Result T E) (P Q R : T → Type 0) → ((t : T) → P t → Q t → R t) → IfOk x P → IfOk x Q → IfOk x R
both (Ok t) P Q R f p q = f t p q
both (Err e) P Q R f p q = tt

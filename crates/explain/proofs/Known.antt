-- What is told of a reader whose bytes are known.
use Rattle.std.proofs.Common.{◌≡◌, ℕ, ◌+◌, List, take, Some, None, Option, Result, Ok, Err, IfOk, IfSome, subst}
use Rattle.memory.specs.declared.refusals.Fault.{Fault}
use Rattle.memory.specs.Limits.{input_limit}
use Rattle.explain.specs.Told.{Tells, TellsKnown}

pub known : {E : Type 0} (of_input old new : Option (List ℕ)) (steps : ℕ) (input : List ℕ) (r : Result (Option Fault) E) → IfSome of_input (λ xs. input ≡ take (input_limit + 1) xs) → IfOk r (Tells input steps old new) → IfOk r (TellsKnown of_input steps old new)
known None old new steps input (Ok f) is told = tt
known (Some xs) old new steps input (Ok f) is told = let P : List ℕ → Type 0 = λ bs. Tells bs steps old new f in subst P is told
known of_input old new steps input (Err e) is told = tt

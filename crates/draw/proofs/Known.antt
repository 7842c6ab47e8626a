-- What is drawn of a reader whose bytes are known.
use Rattle.std.proofs.Common.{◌≡◌, ℕ, ◌+◌, List, take, Some, None, Option, Result, Ok, Err, IfOk, IfSome, subst}
use Rattle.memory.specs.declared.refusals.Fault.{Fault}
use Rattle.memory.specs.Limits.{input_limit}
use Rattle.draw.specs.Drawn.{Draws, DrawsKnown}

pub known : {E : Type 0} (of_input old new : Option (List ℕ)) (steps : ℕ) (input : List ℕ) (r : Result (Option Fault) E) → IfSome of_input (λ xs. input ≡ take (input_limit + 1) xs) → IfOk r (Draws input steps old new) → IfOk r (DrawsKnown of_input steps old new)
known None old new steps input (Ok f) is drawn = tt
known (Some xs) old new steps input (Ok f) is drawn = let P : List ℕ → Type 0 = λ bs. Draws bs steps old new f in subst P is drawn
known of_input old new steps input (Err e) is drawn = tt

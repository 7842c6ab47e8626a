-- One byte more than count is read, and changes no answer.
use Rattle.std.proofs.Common.{◌≡◌, ℕ, Bool, List, [], ◌∷◌, take, Some, None, Option, IfSome, ◌==◌, nat_eq, slice_get, slice_index, ap, ◌∙◌, subst, arith, refl}
use Rattle.std.specs.Io.KnownBytes.{Appends}
use Rattle.std.specs.Option.{option_eq}
use Rattle.std.proofs.lemmas.List.{take-take}
use Rattle.checker.specs.Output.{answer_to, output, served}

answers : (xs : List ℕ) → answer_to (take 4097 xs) ≡ answer_to xs
answers xs = ap (λ bs. output (served (slice_index bs 4 == 3)) bs) (take-take 4096 4097 xs (omega arith))

same : (xs read bytes : List ℕ) → read ≡ take 4097 xs → bytes ≡ answer_to read → bytes ≡ answer_to xs
same xs read bytes is made = made ∙ (ap answer_to is ∙ answers xs)

-- what is written, where what is read is known
pub written : (known old new : Option (List ℕ)) (read bytes : List ℕ) → IfSome known (λ xs. read ≡ take 4097 xs) → bytes ≡ answer_to read → Appends old new bytes → IfSome known (λ xs. Appends old new (answer_to xs))
written None old new read bytes is made more = tt
written (Some xs) old new read bytes is made more = subst (λ b. Appends old new b) (same xs read bytes is made) more

first : (bs : List ℕ) → option_eq nat_eq (slice_get bs 0) (Some 0x1e) ≡ (slice_index bs 0 == 0x1e)
first [] = refl
first (b ∷ bs) = refl

pub notice : (known : Option (List ℕ)) (read bytes : List ℕ) (is_notice : Bool) → IfSome known (λ xs. read ≡ take 4097 xs) → bytes ≡ answer_to read → is_notice ≡ option_eq nat_eq (slice_get bytes 0) (Some 0x1e) → IfSome known (λ xs. is_notice ≡ (slice_index (answer_to xs) 0 == 0x1e))
notice None read bytes is_notice is made told = tt
notice (Some xs) read bytes is_notice is made told = told ∙ (first bytes ∙ ap (λ bs. slice_index bs 0 == 0x1e) (same xs read bytes is made))

-- Lines that are written one by one.
use Rattle.std.proofs.Common.{◌≡◌, ℕ, ◌+◌, ◌<◌, List, [], ◌∷◌, ◌++◌, length, take, get_or, codes, Some, None, Option, Result, Ok, Err, IfOk, IfSome, sym, ap, ◌∙◌, subst, append_assoc, append-nil, fold}
use Rattle.std.specs.Fmt.{option_append, with_newline}
use Rattle.std.specs.Io.KnownBytes.{Appends}
use Rattle.std.proofs.KnownBytes.{Appends-trans}
use Rattle.std.proofs.lemmas.List.Sums.{fold_more}
use Rattle.explaining.specs.Rows.{each, lines}

pub appends_both : (a b c : Option (List ℕ)) (told line : Option (List ℕ)) → IfSome told (Appends a b) → IfSome line (Appends b c) → IfSome (option_append told line) (Appends a c)
appends_both a b c None line p q = tt
appends_both a b c (Some x) None p q = tt
appends_both a b c (Some x) (Some y) p q = Appends-trans a b c x y p q

pub each_more : {T : Type 0} (text : T → Option (List ℕ)) (xs : List T) (i : ℕ) (d : T) (a b c : Option (List ℕ)) → i < length xs → IfSome (each text (take i xs)) (Appends a b) → IfSome (with_newline (text (get_or xs i d))) (Appends b c) → IfSome (each text (take (i + 1) xs)) (Appends a c)
each_more text xs i d a b c lt p q =
    let P : Option (List ℕ) → Type 0 = λ o. IfSome o (Appends a c) in
    subst P (sym (fold_more (λ told x. option_append told (with_newline (text x))) (Some []) xs i d lt)) (appends_both a b c (each text (take i xs)) (with_newline (text (get_or xs i d))) p q)

-- of items that have known words, after some text
pub each_from : {T : Type 0} (words : T → List ℕ) (told : List ℕ) (xs : List T) → fold (λ o x. option_append o (with_newline (Some (words x)))) (Some told) xs ≡ Some (told ++ lines words xs)
each_from words told [] = ap Some (sym (append-nil told))
each_from words told (x ∷ xs) =
    each_from words (told ++ (words x ++ codes "\n")) xs ∙ ap Some (append_assoc told (words x ++ codes "\n") (lines words xs))

pub known : {T : Type 0} (words : T → List ℕ) (xs : List T) (a b : Option (List ℕ)) → IfSome (each (λ x. Some (words x)) xs) (Appends a b) → Appends a b (lines words xs)
known words xs a b p = let P : Option (List ℕ) → Type 0 = λ o. IfSome o (Appends a b) in subst P (each_from words [] xs) p

pub known_ok : {T E : Type 0} (words : T → List ℕ) (xs : List T) (a b : Option (List ℕ)) (r : Result (Unit {0}) E) → IfOk r (λ _. IfSome (each (λ x. Some (words x)) xs) (Appends a b)) → IfOk r (λ _. Appends a b (lines words xs))
known_ok words xs a b (Ok u) p = known words xs a b p
known_ok words xs a b (Err e) p = tt

-- one text behind another
pub then_ok : {E : Type 0} (a b c : Option (List ℕ)) (front rest : List ℕ) (r : Result (Unit {0}) E) → Appends a b front → IfOk r (λ _. Appends b c rest) → IfOk r (λ _. Appends a c (front ++ rest))
then_ok a b c front rest (Ok u) p q = Appends-trans a b c front rest p q
then_ok a b c front rest (Err e) p q = tt

-- one line, and text behind it
pub line_ok : {E : Type 0} (a b c : Option (List ℕ)) (line rest : List ℕ) (r : Result (Unit {0}) E) → Appends a b (line ++ codes "\n") → IfOk r (λ _. Appends b c rest) → IfOk r (λ _. Appends a c (line ++ (codes "\n" ++ rest)))
line_ok a b c line rest r p q =
    let P : List ℕ → Type 0 = λ bs. IfOk r (λ _. Appends a c bs) in
    subst P (append_assoc line (codes "\n") rest) (then_ok a b c (line ++ codes "\n") rest r p q)

-- The written addresses are those that some record is a store to.
use Rattle.std.proofs.Common.{◌≡◌, ℕ, Bool, true, false, cond, not, ◌&&◌, ◌||◌, List, [], ◌∷◌, ◌++◌, fold, ◌==◌, refl, sym, ap, ◌∙◌, subst}
use Rattle.std.proofs.lemmas.Bool.{eqb-true}
use Rattle.std.proofs.lemmas.List.Folds.{list_any-append}
use Rattle.std.specs.List.{list_any}
use Rattle.memory.specs.declared.records.Record.{Record}
use Rattle.memory.specs.Kinds.{is_store}
use Rattle.memory.specs.Runs.{at, has}
use Rattle.explaining.specs.Memory.{stores, with_store, written, AreWritten}

pub or_false : (b : Bool) → (b || false) ≡ b
or_false true = refl
or_false false = refl

pub or_assoc : (b c d : Bool) → ((b || c) || d) ≡ (b || (c || d))
or_assoc true c d = refl
or_assoc false c d = refl

pub or_within : (b c : Bool) → (c ≡ true → b ≡ true) → b ≡ (b || c)
or_within true c h = refl
or_within false true h = h refl
or_within false false h = refl

-- with the address of a store, unless it is among them
pub with_address : (seen : List ℕ) (stored among : Bool) (b a : ℕ) → has seen b ≡ among → has (cond (stored && not among) (seen ++ b ∷ []) seen) a ≡ (has seen a || (stored && b == a))
with_address seen false among b a is = sym (or_false (has seen a))
with_address seen true false b a is = list_any-append (λ x. x == a) seen (b ∷ []) ∙ ap (λ c. has seen a || c) (or_false (b == a))
with_address seen true true b a is =
    or_within (has seen a) (b == a) (λ same. let P : ℕ → Type 0 = λ x. has seen x ≡ true in subst P (eqb-true b a same) is)

pub written_from : (rs : List Record) (xs seen : List ℕ) (a : ℕ) → has (fold (λ s x. with_store s (at rs x)) seen xs) a ≡ (has seen a || list_any (stores rs a) xs)
written_from rs [] seen a = sym (or_false (has seen a))
written_from rs (x ∷ xs) seen a =
    let r = at rs x in
    written_from rs xs (with_store seen r) a
    ∙ ap (λ c. c || list_any (stores rs a) xs) (with_address seen (is_store r.kind) (has seen r.address) r.address a refl)
    ∙ or_assoc (has seen a) (stores rs a x) (list_any (stores rs a) xs)

pub are_written : (rs : List Record) (xs seen : List ℕ) → seen ≡ written rs xs → AreWritten rs xs seen
are_written rs xs seen is a = ap (λ s. has s a) is ∙ written_from rs xs [] a

-- A printed line has no newline within. Assumes nothing.
use Rattle.std.proofs.Common.{◌≡◌, ℕ, ◌-◌, ◌<◌, ◌^◌, Bool, true, false, cond, not, ◌&&◌, ◌==◌, List, [], ◌∷◌, ◌++◌, codes, ◌∙◌, arith, tests, refl}
use Rattle.std.specs.Fmt.{digits, decimal}
use Rattle.std.specs.List.{All, list_all}
use Rattle.std.proofs.lemmas.List.Elements.{All-cons, All-nil}
use Rattle.std.proofs.lemmas.List.Folds.{list_all-append}
use Rattle.memory.specs.declared.kinds.Kind.{Kind}
use Rattle.memory.specs.declared.kinds.Kind.TheVariants.{Load, Store, Fence}
use Rattle.memory.specs.declared.records.Record.{Record}
use Rattle.memory.specs.Limits.{reading_limit}
use Rattle.logs.specs.Parts.{is_word_byte}
use Rattle.logs.specs.Printing.{done_words, record_words, entry_of}
use Rattle.logs.specs.Sayable.{Sayable}
use Rattle.logs.proofs.Numerals.{decimal_word, hexadecimal_word}
use Rattle.logs.proofs.Words.{AllWord}

-- no byte is a newline
pub record Whole (bs : List ℕ) : Type 0 where
  pub is : list_all (λ b. not (b == 10)) bs ≡ true

true_parts : (a b : Bool) → (a && b) ≡ true → (a ≡ true) × (b ≡ true)
true_parts true b h = (refl, h)
true_parts false b h = absurd (cc)

no_newline : (b : ℕ) → not (b == 10) ≡ true → (b == 10) ≡ false
no_newline b h = grind (arith, tests)

each : (bs : List ℕ) → list_all (λ b. not (b == 10)) bs ≡ true → All (λ b. (b == 10) ≡ false) bs
each [] h = All-nil (λ b. (b == 10) ≡ false)
each (b ∷ bs) h =
    let p = true_parts (not (b == 10)) (list_all (λ b. not (b == 10)) bs) h in
    All-cons (λ b. (b == 10) ≡ false) b bs (no_newline b p.0) (each bs p.1)

pub unbroken : (bs : List ℕ) → Whole bs → All (λ b. (b == 10) ≡ false) bs
unbroken bs h = each bs h.is

pub joined : (xs : List ℕ) {ys : List ℕ} → Whole xs → Whole ys → Whole (xs ++ ys)
joined xs {ys} h i = record { is = list_all-append (λ b. not (b == 10)) xs ys ∙ (λ j. h.is j && i.is j) }

word_byte : (b : ℕ) → is_word_byte b ≡ true → not (b == 10) ≡ true
word_byte b h = grind (arith, tests)

word_bytes : (w : List ℕ) → AllWord w → list_all (λ b. not (b == 10)) w ≡ true
word_bytes [] h = refl
word_bytes (b ∷ w) h = (λ j. (word_byte b h.0) j && (word_bytes w h.1) j)

pub whole_decimal : (n : ℕ) → n < 2 ^ 64 → Whole (decimal n)
whole_decimal n h = record { is = word_bytes (decimal n) (decimal_word n h) }

whole_hexadecimal : (n : ℕ) → n < 2 ^ 64 → Whole (digits 16 false n)
whole_hexadecimal n h = record { is = word_bytes (digits 16 false n) (hexadecimal_word n h) }

whole_access : (sign : List ℕ) (a v : ℕ) → Whole sign → a < 2 ^ 32 → v < 2 ^ 64 → Whole (codes "M[" ++ (digits 16 false a ++ (sign ++ decimal v)))
whole_access sign a v h fits_a fits_v =
    joined (codes "M[") (record { is = refl }) (joined (digits 16 false a) (whole_hexadecimal a (omega (arith, fits_a))) (joined sign h (whole_decimal v fits_v)))

whole_done : (k : Kind) (a v : ℕ) → a < 2 ^ 32 → v < 2 ^ 64 → Whole (done_words k a v)
whole_done Load a v fits_a fits_v = whole_access (codes "] == ") a v (record { is = refl }) fits_a fits_v
whole_done Store a v fits_a fits_v = whole_access (codes "] := ") a v (record { is = refl }) fits_a fits_v
whole_done Fence a v fits_a fits_v = record { is = refl }

whole_stamp : (b : Bool) (e c : ℕ) → e < 2 ^ 64 → c < 2 ^ 64 → Whole (cond b [] (codes " @ " ++ (decimal e ++ (codes ":" ++ decimal c))))
whole_stamp true e c fits_e fits_c = record { is = refl }
whole_stamp false e c fits_e fits_c =
    joined (codes " @ ") (record { is = refl }) (joined (decimal e) (whole_decimal e fits_e) (joined (codes ":") (record { is = refl }) (whole_decimal c fits_c)))

pub whole_record : (r : Record) → Sayable (entry_of r) → Whole (record_words r)
unfolding record_words
whole_record r fits =
    joined (decimal r.processor) (whole_decimal r.processor (omega (arith, fits.processor)))
    (joined (codes ": ") (record { is = refl })
    (joined (done_words r.kind r.address r.value) (whole_done r.kind r.address r.value fits.address fits.value)
    (whole_stamp (r.enter == 0 && r.commit == reading_limit - 1) r.enter r.commit fits.enter fits.commit)))

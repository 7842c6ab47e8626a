-- A printed record is read as it is. Assumes nothing.
use Rattle.std.proofs.Common.{◌≡◌, ℕ, ◌-◌, ◌^◌, ◌<◌, Bool, true, false, cond, ◌&&◌, ◌==◌, List, [], ◌∷◌, ◌++◌, codes, Ok, Err, Result, slice_index, sym, ap, ◌∙◌, arith, tests, rules, refl}
use Rattle.std.specs.Char.{digit_value, is_ascii_digit}
use Rattle.std.specs.Fmt.{digits, decimal}
use Rattle.std.specs.Str.Parse.{IsNumeral}
use Rattle.std.proofs.lemmas.Fmt.{decimal_is_IsNumeral}
use Rattle.std.proofs.lemmas.List.{append_assoc, append-nil}
use Rattle.memory.specs.declared.kinds.Kind.{Kind}
use Rattle.memory.specs.declared.kinds.Kind.TheVariants.{Load, Store, Fence}
use Rattle.memory.specs.declared.records.Record.{Record}
use Rattle.memory.specs.Kinds.{kind_number}
use Rattle.memory.specs.Limits.{reading_limit}
use Rattle.logs.specs.declared.statements.Statement.{Statement}
use Rattle.logs.specs.declared.statements.Statement.TheVariants as statement
use Rattle.logs.specs.declared.troubles.Expected.{Expected}
use Rattle.logs.specs.declared.troubles.Expected.TheVariants as expected
use Rattle.logs.specs.Numbers.{numeral}
use Rattle.logs.specs.Parts.{and_then, after_blanks, word_in, behind_word, says, behind_sign, is_over, over_at}
use Rattle.logs.specs.Printing.{done_words, stamp_words, record_words, entry_of}
use Rattle.logs.specs.Sayable.{Sayable, IsBlankFence}
use Rattle.logs.specs.Statements.{ended, operator, load_or_store, operation_in, stamp, period_in, access, head_line, statement_of, entry_of_parts, fence}
use Rattle.logs.proofs.Numerals.{decimal_read, hexadecimal_read, behind_blank}
use Rattle.logs.proofs.Words.{AllWord, IsClear, digit_is_ink, keeps, word_is, behind_is}

-- address, operator and value, for the two operators
load_read : (a v : ℕ) (rest : List ℕ) → a < 2 ^ 32 → v < 2 ^ 64 → IsClear rest → load_or_store (codes "[" ++ (digits 16 false a ++ (codes "] == " ++ (decimal v ++ rest)))) ≡ Ok (record { kind = Load; address = a; value = v }, rest)
unfolding load_or_store behind_sign operator after_blanks
load_read a v rest fits_a fits_v clear =
    ap (λ r. and_then r (λ address. and_then (behind_sign 93 expected.CloseBracket address.1) (λ closed. and_then (operator closed) (λ kind. and_then (numeral 10 (2 ^ 64 - 1) expected.Value kind.1) (λ value. Ok (record { kind = kind.0; address = address.0; value = value.0 }, value.1))))))
    (hexadecimal_read (2 ^ 32 - 1) a expected.Address (codes "] == " ++ (decimal v ++ rest)) (omega (arith, fits_a)) (omega (arith, fits_a)) refl)
    ∙ ap (λ r. and_then r (λ value. Ok (record { kind = Load; address = a; value = value.0 }, value.1)))
    (behind_blank 10 (2 ^ 64 - 1) expected.Value (decimal v ++ rest) ∙ decimal_read (2 ^ 64 - 1) v expected.Value rest fits_v (omega (arith, fits_v)) clear)

store_read : (a v : ℕ) (rest : List ℕ) → a < 2 ^ 32 → v < 2 ^ 64 → IsClear rest → load_or_store (codes "[" ++ (digits 16 false a ++ (codes "] := " ++ (decimal v ++ rest)))) ≡ Ok (record { kind = Store; address = a; value = v }, rest)
unfolding load_or_store behind_sign operator after_blanks
store_read a v rest fits_a fits_v clear =
    ap (λ r. and_then r (λ address. and_then (behind_sign 93 expected.CloseBracket address.1) (λ closed. and_then (operator closed) (λ kind. and_then (numeral 10 (2 ^ 64 - 1) expected.Value kind.1) (λ value. Ok (record { kind = kind.0; address = address.0; value = value.0 }, value.1))))))
    (hexadecimal_read (2 ^ 32 - 1) a expected.Address (codes "] := " ++ (decimal v ++ rest)) (omega (arith, fits_a)) (omega (arith, fits_a)) refl)
    ∙ ap (λ r. and_then r (λ value. Ok (record { kind = Store; address = a; value = value.0 }, value.1)))
    (behind_blank 10 (2 ^ 64 - 1) expected.Value (decimal v ++ rest) ∙ decimal_read (2 ^ 64 - 1) v expected.Value rest fits_v (omega (arith, fits_v)) clear)

-- digits, a middle and digits, in front of a rest
moved : (xs ys zs rest : List ℕ) → (xs ++ (ys ++ zs)) ++ rest ≡ xs ++ (ys ++ (zs ++ rest))
moved xs ys zs rest = append_assoc xs (ys ++ zs) rest ∙ ap (λ t. xs ++ t) (append_assoc ys zs rest)

sync_word : AllWord (codes "sync")
sync_word = search rules

done_read : (k : Kind) (a v : ℕ) (rest : List ℕ) → a < 2 ^ 32 → v < 2 ^ 64 → IsBlankFence k a v → IsClear rest → operation_in (32 ∷ (done_words k a v ++ rest)) ≡ Ok (record { kind = k; address = a; value = v }, rest)
unfolding operation_in after_blanks word_in behind_word
done_read Load a v rest fits_a fits_v blank clear = ap (λ t. load_or_store (codes "[" ++ t)) (moved (digits 16 false a) (codes "] == ") (decimal v) rest) ∙ load_read a v rest fits_a fits_v clear
done_read Store a v rest fits_a fits_v blank clear = ap (λ t. load_or_store (codes "[" ++ t)) (moved (digits 16 false a) (codes "] := ") (decimal v) rest) ∙ store_read a v rest fits_a fits_v clear
done_read Fence a v rest fits_a fits_v blank clear =
    let s : List ℕ = codes "sync" ++ rest in
    ap (λ w. cond (says w (codes "sync")) (Ok (fence, behind_word s)) (cond (says w (codes "M")) (load_or_store (behind_word s)) (Err expected.Operation))) (word_is (codes "sync") rest sync_word clear)
    ∙ (ap (λ r. Ok (fence, r)) (behind_is (codes "sync") rest sync_word clear)
    ∙ (λ i. Ok (record { kind = Fence; address = (sym blank.0) i; value = (sym blank.1) i }, rest)))

clear_stamp : (b : Bool) (e c : ℕ) → IsClear (cond b [] (codes " @ " ++ (decimal e ++ (codes ":" ++ decimal c))))
clear_stamp true e c = refl
clear_stamp false e c = refl

stamp_read : (e c : ℕ) → e < 2 ^ 64 → c < 2 ^ 64 → stamp (codes " @ " ++ (decimal e ++ (codes ":" ++ decimal c))) ≡ Ok (record { enter = e; commit = c })
unfolding stamp behind_sign after_blanks is_over
stamp_read e c fits_e fits_c =
    ap (λ r. and_then r (λ enter. and_then (behind_sign 58 expected.StampColon enter.1) (λ parted. and_then (numeral 10 (2 ^ 64 - 1) expected.Commit parted) (λ commit. ended (record { enter = enter.0; commit = commit.0 }) commit.1))))
    (behind_blank 10 (2 ^ 64 - 1) expected.Enter (decimal e ++ (codes ":" ++ decimal c)) ∙ decimal_read (2 ^ 64 - 1) e expected.Enter (codes ":" ++ decimal c) fits_e (omega (arith, fits_e)) refl)
    ∙ ap (λ r. and_then r (λ commit. ended (record { enter = e; commit = commit.0 }) commit.1))
    (ap (numeral 10 (2 ^ 64 - 1) expected.Commit) (sym (append-nil (decimal c))) ∙ decimal_read (2 ^ 64 - 1) c expected.Commit [] fits_c (omega (arith, fits_c)) refl)

any_time_said : (e c : ℕ) → (e == 0 && c == reading_limit - 1) ≡ true → (e ≡ 0) × (c ≡ reading_limit - 1)
any_time_said e c h = grind (arith, tests)

period_at : (b : Bool) (e c : ℕ) → (e == 0 && c == reading_limit - 1) ≡ b → e < 2 ^ 64 → c < 2 ^ 64 → period_in (cond b [] (codes " @ " ++ (decimal e ++ (codes ":" ++ decimal c)))) ≡ Ok (record { enter = e; commit = c })
unfolding period_in is_over after_blanks
period_at true e c h fits_e fits_c =
    let said = any_time_said e c h in
    λ i. Ok (record { enter = (sym said.0) i; commit = (sym said.1) i })
period_at false e c h fits_e fits_c = stamp_read e c fits_e fits_c

period_read : (e c : ℕ) → e < 2 ^ 64 → c < 2 ^ 64 → period_in (stamp_words e c) ≡ Ok (record { enter = e; commit = c })
period_read e c fits_e fits_c = period_at (e == 0 && c == reading_limit - 1) e c refl fits_e fits_c

-- a decimal begins with a digit
pub record Begins (ds : List ℕ) : Type 0 where
  first : ℕ
  rest : List ℕ
  is : ds ≡ first ∷ rest
  digit : digit_value first < 10

begins : (ds : List ℕ) → IsNumeral 10 ds → Begins ds
begins [] h = absurd (omega (arith, h.0))
begins (c ∷ cs) h = record { first = c; rest = cs; is = refl; digit = h.1.0 }

no_comment : (c : ℕ) → digit_value c < 10 → (c == 35) ≡ false
no_comment c h = grind (arith, tests)

is_digit : (c : ℕ) → digit_value c < 10 → is_ascii_digit c ≡ true
is_digit c h = grind (arith, tests)

blank_at : (k : Kind) (a v : ℕ) → (kind_number k ≡ 3 → a ≡ 0) → (kind_number k ≡ 3 → v ≡ 0) → IsBlankFence k a v
blank_at Load a v h i = tt
blank_at Store a v h i = tt
blank_at Fence a v h i = (h refl, i refl)

blank_fence : (r : Record) → Sayable (entry_of r) → IsBlankFence r.kind r.address r.value
blank_fence r fits = blank_at r.kind r.address r.value fits.fence_address fits.fence_value

access_read : (r : Record) → Sayable (entry_of r) → access (record_words r) ≡ Ok (entry_of r)
unfolding access record_words behind_sign after_blanks
access_read r fits =
    let stamped : List ℕ = stamp_words r.enter r.commit in
    ap (λ x. and_then x (λ processor. and_then (behind_sign 58 expected.Colon processor.1) (λ parted. and_then (operation_in parted) (λ done. and_then (period_in done.1) (λ time. Ok (entry_of_parts processor.0 done.0 time))))))
    (decimal_read 254 r.processor expected.Processor (codes ": " ++ (done_words r.kind r.address r.value ++ stamped)) (omega (arith, fits.processor)) fits.processor refl)
    ∙ (ap (λ x. and_then x (λ done. and_then (period_in done.1) (λ time. Ok (entry_of_parts r.processor done.0 time))))
    (done_read r.kind r.address r.value stamped fits.address fits.value (blank_fence r fits) (clear_stamp (r.enter == 0 && r.commit == reading_limit - 1) r.enter r.commit))
    ∙ ap (λ x. and_then x (λ time. Ok (entry_of_parts r.processor (record { kind = r.kind; address = r.address; value = r.value }) time))) (period_read r.enter r.commit fits.enter fits.commit))

digit_first : (c : ℕ) (bs : List ℕ) → digit_value c < 10 → statement_of (c ∷ bs) ≡ and_then (access (c ∷ bs)) (λ entry. Ok (statement.Access entry))
unfolding statement_of is_over
digit_first c bs h =
    let line : List ℕ = c ∷ bs in
    let read : Result Statement Expected = and_then (access line) (λ entry. Ok (statement.Access entry)) in
    ap (λ s. cond (over_at s) (Ok statement.Nothing) (cond (is_ascii_digit (slice_index s 0)) read (head_line line))) (keeps c bs (digit_is_ink c (omega (arith, h))))
    ∙ (ap (λ b. cond b (Ok statement.Nothing) (cond (is_ascii_digit c) read (head_line line))) (no_comment c h)
    ∙ ap (λ b. cond b read (head_line line)) (is_digit c h))

pub record_read : (r : Record) → Sayable (entry_of r) → statement_of (record_words r) ≡ Ok (statement.Access (entry_of r))
unfolding record_words
record_read r fits =
    let front = begins (decimal r.processor) (decimal_is_IsNumeral r.processor (omega (arith, fits.processor))).0 in
    let behind : List ℕ = codes ": " ++ (done_words r.kind r.address r.value ++ stamp_words r.enter r.commit) in
    let line : record_words r ≡ front.first ∷ (front.rest ++ behind) = ap (λ t. t ++ behind) front.is in
    ap statement_of line ∙ (digit_first front.first (front.rest ++ behind) front.digit
    ∙ (ap (λ t. and_then (access t) (λ entry. Ok (statement.Access entry))) (sym line)
    ∙ ap (λ x. and_then x (λ entry. Ok (statement.Access entry))) (access_read r fits)))

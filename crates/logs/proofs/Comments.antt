-- A comment says nothing. Assumes nothing.
use Rattle.std.proofs.Common.{◌≡◌, ℕ, ◌+◌, ◌-◌, ◌^◌, Bool, true, false, not, cond, ◌&&◌, ◌==◌, nat_lt, List, [], ◌∷◌, ◌++◌, codes, map, length, take, drop, Some, None, Option, Ok, Err, Result, slice_index, get_or, ⊎_elim, sym, ap, ◌∙◌, arith, tests, refl}
use Rattle.std.specs.Char.{is_ascii_digit}
use Rattle.std.specs.List.{position_or_len, before_first, after_first}
use Rattle.std.proofs.lemmas.List.{take-append-le, drop-append-le, take_all}
use Rattle.std.proofs.lemmas.List.Sums.{prefix_len-le-length, split_at_first, passes_at_first}
use Rattle.std.proofs.lemmas.Bool.{cases_lt}
use Rattle.memory.specs.declared.kinds.Kind.{Kind}
use Rattle.memory.specs.declared.kinds.Kind.TheVariants.{Load, Store}
use Rattle.memory.specs.declared.records.Entry.{Entry}
use Rattle.logs.specs.declared.headings.Heading.{Heading}
use Rattle.logs.specs.declared.reading.Access.{Access}
use Rattle.logs.specs.declared.statements.Operation.{Operation}
use Rattle.logs.specs.declared.statements.Period.{Period}
use Rattle.logs.specs.declared.statements.Statement.{Statement}
use Rattle.logs.specs.declared.statements.Statement.TheVariants as statement
use Rattle.logs.specs.declared.troubles.BadLine.{BadLine}
use Rattle.logs.specs.declared.troubles.Expected.{Expected}
use Rattle.logs.specs.declared.troubles.Expected.TheVariants as expected
use Rattle.logs.specs.Numbers.{number_in, within, numeral}
use Rattle.logs.specs.Parts.{and_then, is_blank, is_word_byte, after_blanks, word_in, behind_word, says, begun_by, behind_sign, over_at, is_over}
use Rattle.logs.specs.Reading.{lines_read, line_read, said_by, unsaid, in_line, heading_with, access_at}
use Rattle.logs.specs.Statements.{ended, operator_at, operator, load_or_store, operation_in, fence, stamp, any_time, period_in, entry_of_parts, access, model_named, clock_named, model_line, clock_line, processors_line, head_line, statement_of}

-- what was read, with a comment behind what follows it
abbrev also : {A : Type 0} → List ℕ → Result (A × List ℕ) Expected → Result (A × List ℕ) Expected
also c (Ok x) = Ok (x.0, x.1 ++ (35 ∷ c))
also c (Err e) = Err e

abbrev still : List ℕ → Result (List ℕ) Expected → Result (List ℕ) Expected
still c (Ok rest) = Ok (rest ++ (35 ∷ c))
still c (Err e) = Err e

-- # is neither a blank nor a byte of a word
same_place : (p : ℕ → Bool) (bs c : List ℕ) → p 35 ≡ false → position_or_len (λ b. not (p b)) (bs ++ (35 ∷ c)) ≡ position_or_len (λ b. not (p b)) bs
same_place p [] c h = ap (λ t. cond (not (not t)) (1 + position_or_len (λ b. not (p b)) c) 0) h
same_place p (b ∷ bs) c h = ap (λ n. cond (not (not (p b))) (1 + n) 0) (same_place p bs c h)

blanks_c : (bs c : List ℕ) → after_blanks (bs ++ (35 ∷ c)) ≡ after_blanks bs ++ (35 ∷ c)
unfolding after_blanks
blanks_c bs c =
    ap (λ n. drop n (bs ++ (35 ∷ c))) (same_place is_blank bs c refl) ∙ drop-append-le (position_or_len (λ b. not (is_blank b)) bs) bs (35 ∷ c) (prefix_len-le-length _ bs)

word_c : (bs c : List ℕ) → word_in (bs ++ (35 ∷ c)) ≡ word_in bs
unfolding word_in
word_c bs c =
    ap (λ n. take n (bs ++ (35 ∷ c))) (same_place is_word_byte bs c refl) ∙ take-append-le (position_or_len (λ b. not (is_word_byte b)) bs) bs (35 ∷ c) (prefix_len-le-length _ bs)

behind_c : (bs c : List ℕ) → behind_word (bs ++ (35 ∷ c)) ≡ behind_word bs ++ (35 ∷ c)
unfolding behind_word
behind_c bs c =
    ap (λ n. drop n (bs ++ (35 ∷ c))) (same_place is_word_byte bs c refl) ∙ drop-append-le (position_or_len (λ b. not (is_word_byte b)) bs) bs (35 ∷ c) (prefix_len-le-length _ bs)

over_front : (s c : List ℕ) → over_at (s ++ (35 ∷ c)) ≡ over_at s
over_front [] c = refl
over_front (b ∷ s) c = refl

over_c : (bs c : List ℕ) → is_over (bs ++ (35 ∷ c)) ≡ is_over bs
unfolding is_over
over_c bs c = ap over_at (blanks_c bs c) ∙ over_front (after_blanks bs) c

ended_c : {A : Type 0} (x : A) (bs c : List ℕ) → ended x (bs ++ (35 ∷ c)) ≡ ended x bs
ended_c x bs c = ap (λ b. cond b (Ok x) (Err expected.End)) (over_c bs c)

one_sign : (t : Bool) (e : Expected) (bs c : List ℕ) → cond t (Ok (bs ++ (35 ∷ c))) (Err e) ≡ still c (cond t (Ok bs) (Err e))
one_sign true e bs c = refl
one_sign false e bs c = refl

begun_c : (sign : ℕ) (e : Expected) (s c : List ℕ) → (35 == sign) ≡ false → begun_by sign e (s ++ (35 ∷ c)) ≡ still c (begun_by sign e s)
begun_c sign e [] c h = ap (λ t. cond t (Ok c) (Err e)) h
begun_c sign e (b ∷ s) c h = one_sign (b == sign) e s c

sign_c : (sign : ℕ) (e : Expected) (bs c : List ℕ) → (35 == sign) ≡ false → behind_sign sign e (bs ++ (35 ∷ c)) ≡ still c (behind_sign sign e bs)
unfolding behind_sign
sign_c sign e bs c h = ap (begun_by sign e) (blanks_c bs c) ∙ begun_c sign e (after_blanks bs) c h

small_c : (t : Bool) (n : ℕ) (e : Expected) (rest c : List ℕ) → cond t (Err e) (Ok (n, rest ++ (35 ∷ c))) ≡ also c (cond t (Err e) (Ok (n, rest)))
small_c true n e rest c = refl
small_c false n e rest c = refl

within_c : (most : ℕ) (e : Expected) (o : Option ℕ) (rest c : List ℕ) → within most e o (rest ++ (35 ∷ c)) ≡ also c (within most e o rest)
within_c most e None rest c = refl
within_c most e (Some n) rest c = small_c (nat_lt most n) n e rest c

numeral_c : (radix most : ℕ) (e : Expected) (bs c : List ℕ) → numeral radix most e (bs ++ (35 ∷ c)) ≡ also c (numeral radix most e bs)
unfolding numeral
numeral_c radix most e bs c =
    let s : List ℕ = after_blanks bs in
    ap (λ s. within most e (number_in radix (word_in s)) (behind_word s)) (blanks_c bs c)
    ∙ ((λ i. within most e (number_in radix (word_c s c i)) (behind_c s c i)) ∙ within_c most e (number_in radix (word_in s)) (behind_word s) c)

-- steps that keep a comment, one after the other
then_c : {A B : Type 0} (c : List ℕ) (r : Result (A × List ℕ) Expected) (f : A × List ℕ → Result (B × List ℕ) Expected) → ((x : A) (rest : List ℕ) → f (x, rest ++ (35 ∷ c)) ≡ also c (f (x, rest))) → and_then (also c r) f ≡ also c (and_then r f)
then_c c (Ok x) f h = h x.0 x.1
then_c c (Err e) f h = refl

sign_then_c : {B : Type 0} (c : List ℕ) (r : Result (List ℕ) Expected) (f : List ℕ → Result (B × List ℕ) Expected) → ((rest : List ℕ) → f (rest ++ (35 ∷ c)) ≡ also c (f rest)) → and_then (still c r) f ≡ also c (and_then r f)
sign_then_c c (Ok rest) f h = h rest
sign_then_c c (Err e) f h = refl

-- and steps that end a line
last_c : {A B : Type 0} (c : List ℕ) (r : Result (A × List ℕ) Expected) (f : A × List ℕ → Result B Expected) → ((x : A) (rest : List ℕ) → f (x, rest ++ (35 ∷ c)) ≡ f (x, rest)) → and_then (also c r) f ≡ and_then r f
last_c c (Ok x) f h = h x.0 x.1
last_c c (Err e) f h = refl

sign_last_c : {B : Type 0} (c : List ℕ) (r : Result (List ℕ) Expected) (f : List ℕ → Result B Expected) → ((rest : List ℕ) → f (rest ++ (35 ∷ c)) ≡ f rest) → and_then (still c r) f ≡ and_then r f
sign_last_c c (Ok rest) f h = h rest
sign_last_c c (Err e) f h = refl

two_signs : (p q : Bool) (rest c : List ℕ) → cond p (Ok (Store, rest ++ (35 ∷ c))) (cond q (Ok (Load, rest ++ (35 ∷ c))) (Err expected.Operator)) ≡ also c (cond p (Ok (Store, rest)) (cond q (Ok (Load, rest)) (Err expected.Operator)))
two_signs true q rest c = refl
two_signs false true rest c = refl
two_signs false false rest c = refl

and_no : (b : Bool) → (b && false) ≡ false
and_no true = refl
and_no false = refl

no_operator : (a : ℕ) (c : List ℕ) → operator_at (a ∷ 35 ∷ c) ≡ Err expected.Operator
no_operator a c = λ i. cond (and_no (a == 58) i) (Ok (Store, c)) (cond (and_no (a == 61) i) (Ok (Load, c)) (Err expected.Operator))

half_operator : (a : ℕ) → operator_at (a ∷ []) ≡ Err expected.Operator
half_operator a = λ i. cond (and_no (a == 58) i) (Ok (Store, [])) (cond (and_no (a == 61) i) (Ok (Load, [])) (Err expected.Operator))

operator_front : (s c : List ℕ) → operator_at (s ++ (35 ∷ c)) ≡ also c (operator_at s)
operator_front [] c = refl
operator_front (a ∷ []) c = no_operator a c ∙ ap (also c) (sym (half_operator a))
operator_front (a ∷ b ∷ s) c = two_signs (a == 58 && b == 61) (a == 61 && b == 61) s c

operator_c : (bs c : List ℕ) → operator (bs ++ (35 ∷ c)) ≡ also c (operator bs)
unfolding operator
operator_c bs c = ap operator_at (blanks_c bs c) ∙ operator_front (after_blanks bs) c

load_or_store_c : (bs c : List ℕ) → load_or_store (bs ++ (35 ∷ c)) ≡ also c (load_or_store bs)
unfolding load_or_store
load_or_store_c bs c =
    let f5 : Kind → ℕ → ℕ × List ℕ → Result (Operation × List ℕ) Expected = λ k a value. Ok (record { kind = k; address = a; value = value.0 }, value.1) in
    let f4 : ℕ → Kind × List ℕ → Result (Operation × List ℕ) Expected = λ a kind. and_then (numeral 10 (2 ^ 64 - 1) expected.Value kind.1) (f5 kind.0 a) in
    let f3 : ℕ → List ℕ → Result (Operation × List ℕ) Expected = λ a closed. and_then (operator closed) (f4 a) in
    let f2 : ℕ × List ℕ → Result (Operation × List ℕ) Expected = λ address. and_then (behind_sign 93 expected.CloseBracket address.1) (f3 address.0) in
    let f1 : List ℕ → Result (Operation × List ℕ) Expected = λ opened. and_then (numeral 16 (2 ^ 32 - 1) expected.Address opened) f2 in
    ap (λ r. and_then r f1) (sign_c 91 expected.OpenBracket bs c refl)
    ∙ sign_then_c c (behind_sign 91 expected.OpenBracket bs) f1 (λ opened. ap (λ r. and_then r f2) (numeral_c 16 (2 ^ 32 - 1) expected.Address opened c)
    ∙ then_c c (numeral 16 (2 ^ 32 - 1) expected.Address opened) f2 (λ a rest. ap (λ r. and_then r (f3 a)) (sign_c 93 expected.CloseBracket rest c refl)
    ∙ sign_then_c c (behind_sign 93 expected.CloseBracket rest) (f3 a) (λ closed. ap (λ r. and_then r (f4 a)) (operator_c closed c)
    ∙ then_c c (operator closed) (f4 a) (λ k behind. ap (λ r. and_then r (f5 k a)) (numeral_c 10 (2 ^ 64 - 1) expected.Value behind c)
    ∙ then_c c (numeral 10 (2 ^ 64 - 1) expected.Value behind) (f5 k a) (λ v last. refl)))))

two_names : (p q : Bool) (x y : List ℕ) (r s : Result (Operation × List ℕ) Expected) (c : List ℕ) → y ≡ x ++ (35 ∷ c) → s ≡ also c r → cond p (Ok (fence, y)) (cond q s (Err expected.Operation)) ≡ also c (cond p (Ok (fence, x)) (cond q r (Err expected.Operation)))
two_names true q x y r s c h i = ap (λ t. Ok (fence, t)) h
two_names false true x y r s c h i = i
two_names false false x y r s c h i = refl

operation_c : (bs c : List ℕ) → operation_in (bs ++ (35 ∷ c)) ≡ also c (operation_in bs)
unfolding operation_in
operation_c bs c =
    let s : List ℕ = after_blanks bs in
    let on : List ℕ → List ℕ → Result (Operation × List ℕ) Expected = λ word rest. cond (says word (codes "sync")) (Ok (fence, rest)) (cond (says word (codes "M")) (load_or_store rest) (Err expected.Operation)) in
    ap (λ s. on (word_in s) (behind_word s)) (blanks_c bs c)
    ∙ (ap (λ w. on w (behind_word (s ++ (35 ∷ c)))) (word_c s c)
    ∙ two_names (says (word_in s) (codes "sync")) (says (word_in s) (codes "M")) (behind_word s) (behind_word (s ++ (35 ∷ c))) (load_or_store (behind_word s)) (load_or_store (behind_word (s ++ (35 ∷ c)))) c (behind_c s c) (ap load_or_store (behind_c s c) ∙ load_or_store_c (behind_word s) c))

stamp_c : (bs c : List ℕ) → stamp (bs ++ (35 ∷ c)) ≡ stamp bs
unfolding stamp
stamp_c bs c =
    let f4 : ℕ → ℕ × List ℕ → Result Period Expected = λ e commit. ended (record { enter = e; commit = commit.0 }) commit.1 in
    let f3 : ℕ → List ℕ → Result Period Expected = λ e parted. and_then (numeral 10 (2 ^ 64 - 1) expected.Commit parted) (f4 e) in
    let f2 : ℕ × List ℕ → Result Period Expected = λ enter. and_then (behind_sign 58 expected.StampColon enter.1) (f3 enter.0) in
    let f1 : List ℕ → Result Period Expected = λ begun. and_then (numeral 10 (2 ^ 64 - 1) expected.Enter begun) f2 in
    ap (λ r. and_then r f1) (sign_c 64 expected.Stamp bs c refl)
    ∙ sign_last_c c (behind_sign 64 expected.Stamp bs) f1 (λ begun. ap (λ r. and_then r f2) (numeral_c 10 (2 ^ 64 - 1) expected.Enter begun c)
    ∙ last_c c (numeral 10 (2 ^ 64 - 1) expected.Enter begun) f2 (λ e rest. ap (λ r. and_then r (f3 e)) (sign_c 58 expected.StampColon rest c refl)
    ∙ sign_last_c c (behind_sign 58 expected.StampColon rest) (f3 e) (λ parted. ap (λ r. and_then r (f4 e)) (numeral_c 10 (2 ^ 64 - 1) expected.Commit parted c)
    ∙ last_c c (numeral 10 (2 ^ 64 - 1) expected.Commit parted) (f4 e) (λ n last. ended_c (record { enter = e; commit = n }) last c))))

period_c : (bs c : List ℕ) → period_in (bs ++ (35 ∷ c)) ≡ period_in bs
unfolding period_in
period_c bs c = λ i. cond (over_c bs c i) (Ok any_time) (stamp_c bs c i)

access_c : (bs c : List ℕ) → access (bs ++ (35 ∷ c)) ≡ access bs
unfolding access
access_c bs c =
    let f4 : ℕ → Operation → Period → Result Entry Expected = λ p o time. Ok (entry_of_parts p o time) in
    let f3 : ℕ → Operation × List ℕ → Result Entry Expected = λ p done. and_then (period_in done.1) (f4 p done.0) in
    let f2 : ℕ → List ℕ → Result Entry Expected = λ p parted. and_then (operation_in parted) (f3 p) in
    let f1 : ℕ × List ℕ → Result Entry Expected = λ processor. and_then (behind_sign 58 expected.Colon processor.1) (f2 processor.0) in
    ap (λ r. and_then r f1) (numeral_c 10 254 expected.Processor bs c)
    ∙ last_c c (numeral 10 254 expected.Processor bs) f1 (λ p rest. ap (λ r. and_then r (f2 p)) (sign_c 58 expected.Colon rest c refl)
    ∙ sign_last_c c (behind_sign 58 expected.Colon rest) (f2 p) (λ parted. ap (λ r. and_then r (f3 p)) (operation_c parted c)
    ∙ last_c c (operation_in parted) (f3 p) (λ o behind. ap (λ r. and_then r (f4 p o)) (period_c behind c))))

named_c : {A : Type 0} (r : Result A Expected) (f : A → Statement) (bs c : List ℕ) → and_then r (λ x. ended (f x) (bs ++ (35 ∷ c))) ≡ and_then r (λ x. ended (f x) bs)
named_c (Ok x) f bs c = ended_c (f x) bs c
named_c (Err e) f bs c = refl

model_c : (bs c : List ℕ) → model_line (bs ++ (35 ∷ c)) ≡ model_line bs
unfolding model_line
model_c bs c =
    let s : List ℕ = after_blanks bs in
    let on : List ℕ → List ℕ → Result Statement Expected = λ word rest. and_then (model_named word) (λ m. ended (statement.Model m) rest) in
    ap (λ s. on (word_in s) (behind_word s)) (blanks_c bs c)
    ∙ ((λ i. on (word_c s c i) (behind_c s c i)) ∙ named_c (model_named (word_in s)) statement.Model (behind_word s) c)

clock_c : (bs c : List ℕ) → clock_line (bs ++ (35 ∷ c)) ≡ clock_line bs
unfolding clock_line
clock_c bs c =
    let s : List ℕ = after_blanks bs in
    let on : List ℕ → List ℕ → Result Statement Expected = λ word rest. and_then (clock_named word) (λ m. ended (statement.Clock m) rest) in
    ap (λ s. on (word_in s) (behind_word s)) (blanks_c bs c)
    ∙ ((λ i. on (word_c s c i) (behind_c s c i)) ∙ named_c (clock_named (word_in s)) statement.Clock (behind_word s) c)

processors_c : (bs c : List ℕ) → processors_line (bs ++ (35 ∷ c)) ≡ processors_line bs
unfolding processors_line
processors_c bs c =
    let f : ℕ × List ℕ → Result Statement Expected = λ n. ended (statement.Processors n.0) n.1 in
    ap (λ r. and_then r f) (numeral_c 10 255 expected.Processors bs c) ∙ last_c c (numeral 10 255 expected.Processors bs) f (λ n rest. ended_c (statement.Processors n) rest c)

head_c : (bs c : List ℕ) → head_line (bs ++ (35 ∷ c)) ≡ head_line bs
unfolding head_line
head_c bs c =
    let s : List ℕ = after_blanks bs in
    let r : List ℕ = behind_word s in
    let on : List ℕ → List ℕ → Result Statement Expected = λ word rest. cond (says word (codes "model")) (model_line rest) (cond (says word (codes "clock")) (clock_line rest) (cond (says word (codes "processors")) (processors_line rest) (Err expected.Beginning))) in
    ap (λ s. on (word_in s) (behind_word s)) (blanks_c bs c)
    ∙ ((λ i. on (word_c s c i) (behind_c s c i))
    ∙ (λ i. cond (says (word_in s) (codes "model")) (model_c r c i) (cond (says (word_in s) (codes "clock")) (clock_c r c i) (cond (says (word_in s) (codes "processors")) (processors_c r c i) (Err expected.Beginning)))))

digit_front : (s c : List ℕ) → is_ascii_digit (slice_index (s ++ (35 ∷ c)) 0) ≡ is_ascii_digit (slice_index s 0)
digit_front [] c = refl
digit_front (b ∷ s) c = refl

statement_c : (line c : List ℕ) → statement_of (line ++ (35 ∷ c)) ≡ statement_of line
unfolding statement_of
statement_c line c =
    let begins : is_ascii_digit (slice_index (after_blanks (line ++ (35 ∷ c))) 0) ≡ is_ascii_digit (slice_index (after_blanks line) 0) = ap (λ s. is_ascii_digit (slice_index s 0)) (blanks_c line c) ∙ digit_front (after_blanks line) c in
    λ i. cond (over_c line c i) (Ok statement.Nothing) (cond (begins i) (and_then (access_c line c i) (λ entry. Ok (statement.Access entry))) (head_c line c i))

is_hash : (b : ℕ) → (b == 35) ≡ true → b ≡ 35
is_hash b h = grind (arith, tests)

-- a line is what stands before its first #, with a comment behind it where there is one
parted : (line : List ℕ) → statement_of line ≡ statement_of (before_first (λ b. b == 35) line)
parted line =
    let p : ℕ → Bool = λ b. b == 35 in
    let k : ℕ = position_or_len p line in
    ⊎_elim
    (λ lt.
    let hash : get_or line k 0 ≡ 35 = is_hash (get_or line k 0) (passes_at_first p line 0 lt) in
    ap statement_of (split_at_first p line 0 lt ∙ ap (λ b. before_first p line ++ (b ∷ after_first p line)) hash) ∙ statement_c (before_first p line) (after_first p line))
    (λ ge. ap statement_of (sym (take_all k line ge)))
    (cases_lt k (length line))

without : (n : ℕ) (h : Heading) (before : List Access) (lines : List (List ℕ)) → lines_read n h before lines ≡ lines_read n h before (map (before_first (λ b. b == 35)) lines)
unfolding lines_read line_read
without n h before [] = refl
without n h before (l ∷ ls) =
    let both : Statement → Heading → Result (Heading × Statement) Expected = λ s next. Ok (next, s) in
    let read : Result Statement Expected → Result (Heading × Statement) BadLine = λ said. in_line n (and_then said (λ s. and_then (heading_with h s) (both s))) in
    λ i. and_then (read (parted l i)) (λ x. without (n + 1) x.0 (before ++ access_at n x.1) ls i)

pub comments_say_nothing : (lines : List (List ℕ)) → said_by lines ≡ said_by (map (before_first (λ b. b == 35)) lines)
unfolding said_by
comments_say_nothing lines = without 1 unsaid [] lines

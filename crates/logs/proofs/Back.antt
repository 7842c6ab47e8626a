-- A printed log reads as its head and its records. Assumes nothing.
use Rattle.std.proofs.Common.{◌≡◌, ℕ, ◌+◌, ◌<◌, ◌≤◌, ◌==◌, List, [], ◌∷◌, ◌++◌, codes, length, get_or, map, max, subst, lit≤, Some, None, Ok, sym, ap, ◌∙◌, arith, refl}
use Rattle.std.specs.Fmt.{decimal}
use Rattle.std.specs.List.{All, flat_map}
use Rattle.std.proofs.Math.ListN.{get_or-map}
use Rattle.std.proofs.lemmas.List.{append_assoc, append-nil, length-map}
use Rattle.std.proofs.lemmas.List.Elements.{All-head, All-tail, All-map}
use Rattle.std.proofs.lemmas.List.Splits.{slice_split_at}
use Rattle.memory.specs.declared.kinds.Kind.{Kind}
use Rattle.memory.specs.declared.kinds.Kind.TheVariants.{Load, Store, Fence}
use Rattle.memory.specs.declared.records.Record.{Record}
use Rattle.memory.specs.Kinds.{kind_number}
use Rattle.logs.specs.declared.heads.Head.{Head}
use Rattle.logs.specs.declared.heads.NamedModel.{NamedModel}
use Rattle.logs.specs.declared.heads.NamedModel.TheVariants.{Sc, Godson}
use Rattle.logs.specs.declared.heads.NamedClock.{NamedClock}
use Rattle.logs.specs.declared.heads.NamedClock.TheVariants.{Global, NoClock}
use Rattle.logs.specs.declared.headings.Heading.{Heading}
use Rattle.logs.specs.declared.reading.Access.{Access}
use Rattle.logs.specs.declared.statements.Statement.TheVariants as statement
use Rattle.logs.specs.declared.troubles.Expected.TheVariants as expected
use Rattle.logs.specs.Heads.{model_word, clock_word, head_words}
use Rattle.logs.specs.Numbers.{numeral}
use Rattle.logs.specs.Parts.{and_then, after_blanks, word_in, behind_word, is_over}
use Rattle.logs.specs.Printing.{record_words, line_words, printed, entry_of, on_lines, ReadsBack}
use Rattle.logs.specs.Reading.{lines_read, line_read, lines_of, log_of, said_by, unsaid, heading_with, access_at, in_line}
use Rattle.logs.specs.Sayable.{Sayable, Printable, Fits, IsBlankFence}
use Rattle.logs.specs.Statements.{statement_of, head_line, model_line, clock_line, processors_line, ended}
use Rattle.logs.proofs.Numerals.{decimal_read, behind_blank}
use Rattle.logs.proofs.Records.{record_read}
use Rattle.logs.proofs.Whole.{Whole, unbroken, joined, whole_decimal, whole_record}

-- all of the head is said, and so many processors are named
abbrev headed : Head → ℕ → Heading
headed h k = record { model = Some h.model; clock = Some h.clock; processors = Some h.processors; named = k }

one_line : (line rest : List ℕ) → Whole line → lines_of (line ++ (10 ∷ rest)) ≡ line ∷ lines_of rest
one_line line rest h = slice_split_at (λ b. b == 10) line 10 rest (unbroken line h) refl

line_is : (n k : ℕ) (h : Head) (r : Record) → Sayable (entry_of r) → line_read n (headed h k) (record_words r) ≡ Ok (headed h (max k (r.processor + 1)), statement.Access (entry_of r))
unfolding line_read heading_with
line_is n k h r fits = ap (λ s. in_line n (and_then s (λ s. and_then (heading_with (headed h k) s) (λ next. Ok (next, s))))) (record_read r fits)

first_line : (r : Record) (rest : List ℕ) → Sayable (entry_of r) → lines_of (line_words r ++ rest) ≡ record_words r ∷ lines_of rest
first_line r rest fits = ap lines_of (append_assoc (record_words r) (codes "\n") rest) ∙ one_line (record_words r) rest (whole_record r fits)

body_read : (h : Head) (rs : List Record) (n k : ℕ) (before : List Access) → All (λ r. Sayable (entry_of r)) rs → lines_read n (headed h k) before (lines_of (flat_map line_words rs)) ≡ Ok (record { head = h; accesses = before ++ on_lines n (map entry_of rs) })
unfolding lines_read line_read heading_with statement_of is_over after_blanks
body_read h [] n k before all = refl
body_read h (r ∷ rs) n k before all =
    let fits : Sayable (entry_of r) = All-head (λ r. Sayable (entry_of r)) r rs all in
    let now : Access = record { line = n; entry = entry_of r } in
    ap (lines_read n (headed h k) before) (first_line r (flat_map line_words rs) fits)
    ∙ (ap (λ x. and_then x (λ x. lines_read (n + 1) x.0 (before ++ access_at n x.1) (lines_of (flat_map line_words rs)))) (line_is n k h r fits)
    ∙ (body_read h rs (n + 1) (max k (r.processor + 1)) (before ++ (now ∷ [])) (All-tail (λ r. Sayable (entry_of r)) r rs all)
    ∙ ap (λ xs. Ok (record { head = h; accesses = xs })) (append_assoc before (now ∷ []) (on_lines (n + 1) (map entry_of rs)))))

head_lines : (m : NamedModel) (c : NamedClock) (p : ℕ) (rest : List ℕ)
    → lines_of (head_words (record { model = m; clock = c; processors = p }) ++ (codes "\n" ++ rest)) ≡ (codes "model " ++ model_word m) ∷ (codes "clock " ++ clock_word c) ∷ lines_of ((codes "processors " ++ decimal p) ++ (10 ∷ rest))
head_lines Sc Global p rest = refl
head_lines Sc NoClock p rest = refl
head_lines Godson Global p rest = refl
head_lines Godson NoClock p rest = refl

model_read : (m : NamedModel) → line_read 1 unsaid (codes "model " ++ model_word m) ≡ Ok (record { model = Some m; clock = None; processors = None; named = 0 }, statement.Model m)
unfolding line_read heading_with statement_of is_over after_blanks head_line model_line word_in behind_word
model_read Sc = refl
model_read Godson = refl

clock_read : (m : NamedModel) (c : NamedClock) → line_read 2 (record { model = Some m; clock = None; processors = None; named = 0 }) (codes "clock " ++ clock_word c) ≡ Ok (record { model = Some m; clock = Some c; processors = None; named = 0 }, statement.Clock c)
unfolding line_read heading_with statement_of is_over after_blanks head_line clock_line word_in behind_word
clock_read m Global = refl
clock_read m NoClock = refl

processors_said : (p : ℕ) → p ≤ 255 → statement_of (codes "processors " ++ decimal p) ≡ Ok (statement.Processors p)
unfolding statement_of is_over after_blanks head_line processors_line word_in behind_word
processors_said p h =
    ap (λ x. and_then x (λ n. ended (statement.Processors n.0) n.1))
    (behind_blank 10 255 expected.Processors (decimal p) ∙ (ap (numeral 10 255 expected.Processors) (sym (append-nil (decimal p))) ∙ decimal_read 255 p expected.Processors [] (omega (arith, h)) h refl))

processors_read : (m : NamedModel) (c : NamedClock) (p : ℕ) → p ≤ 255 → line_read 3 (record { model = Some m; clock = Some c; processors = None; named = 0 }) (codes "processors " ++ decimal p) ≡ Ok (headed (record { model = m; clock = c; processors = p }) 0, statement.Processors p)
unfolding line_read heading_with
processors_read m c p h = ap (λ s. in_line 3 (and_then s (λ s. and_then (heading_with (record { model = Some m; clock = Some c; processors = None; named = 0 }) s) (λ next. Ok (next, s))))) (processors_said p h)

head_read : (m : NamedModel) (c : NamedClock) (p : ℕ) (rest : List ℕ) → p ≤ 255
    → lines_read 1 unsaid [] (lines_of (head_words (record { model = m; clock = c; processors = p }) ++ (codes "\n" ++ rest))) ≡ lines_read 4 (headed (record { model = m; clock = c; processors = p }) 0) [] (lines_of rest)
unfolding lines_read
head_read m c p rest h =
    let third : List ℕ = codes "processors " ++ decimal p in
    ap (lines_read 1 unsaid []) (head_lines m c p rest ∙ ap (λ ls. (codes "model " ++ model_word m) ∷ (codes "clock " ++ clock_word c) ∷ ls) (one_line third rest (joined (codes "processors ") (record { is = refl }) (whole_decimal p (omega (arith, h))))))
    ∙ (ap (λ x. and_then x (λ x. lines_read 2 x.0 ([] ++ access_at 1 x.1) ((codes "clock " ++ clock_word c) ∷ third ∷ lines_of rest))) (model_read m)
    ∙ (ap (λ x. and_then x (λ x. lines_read 3 x.0 ([] ++ access_at 2 x.1) (third ∷ lines_of rest))) (clock_read m c)
    ∙ ap (λ x. and_then x (λ x. lines_read 4 x.0 ([] ++ access_at 3 x.1) (lines_of rest))) (processors_read m c p h)))

-- from records to text and back
pub reads_back : (h : Head) (rs : List Record) → h.processors ≤ 255 → All (λ r. Sayable (entry_of r)) rs → ReadsBack h rs
unfolding log_of said_by printed
reads_back h rs p all = head_read h.model h.clock h.processors (flat_map line_words rs) p ∙ body_read h rs 4 0 [] all

along : (rs : List Record) (ps : List Access) → map entry_of rs ≡ map (λ a. a.entry) ps → All (λ a. Sayable a.entry) ps → All (λ r. Sayable (entry_of r)) rs
along rs ps e all = λ k d within.
    let long : k < length (map entry_of rs) = omega (arith, within, length-map rs entry_of) in
    let all_rs : All Sayable (map entry_of rs) = subst (All Sayable) (sym e) (All-map Sayable (λ a. a.entry) ps all) in
    subst Sayable (get_or-map entry_of rs k d) (all_rs k (entry_of d) long)

-- from text to entries and records, and back
pub reads_back_as : (h : Head) (rs : List Record) (ps : List Access) → h.processors ≤ 255 → map entry_of rs ≡ map (λ a. a.entry) ps → All (λ a. Sayable a.entry) ps
    → log_of (printed h rs) ≡ Ok (record { head = h; accesses = on_lines 4 (map (λ a. a.entry) ps) })
reads_back_as h rs ps p e all = reads_back h rs p (along rs ps e all) ∙ ap (λ es. Ok (record { head = h; accesses = on_lines 4 es })) e

kind_within : (k : Kind) → (1 ≤ kind_number k) × (kind_number k ≤ 3)
kind_within Load = (lit≤ tt, lit≤ tt)
kind_within Store = (lit≤ tt, lit≤ tt)
kind_within Fence = (lit≤ tt, lit≤ tt)

fence_is : (k : Kind) (a v : ℕ) → kind_number k ≡ 3 → IsBlankFence k a v → (a ≡ 0) × (v ≡ 0)
fence_is Load a v h blank = absurd (omega (arith, h))
fence_is Store a v h blank = absurd (omega (arith, h))
fence_is Fence a v h blank = blank

sayable_from : (r : Record) → Printable r → Fits r → Sayable (entry_of r)
sayable_from r p f = record {
  processor = p.processor;
  kind = kind_within r.kind;
  address = f.address;
  value = f.value;
  enter = f.enter;
  commit = f.commit;
  fence_address = λ h. (fence_is r.kind r.address r.value h p.fence).0;
  fence_value = λ h. (fence_is r.kind r.address r.value h p.fence).1;
}

-- from records to text and back, where their numbers fit
pub reads_back_all : (h : Head) (rs : List Record) → h.processors ≤ 255 → All Fits rs → All Printable rs → ReadsBack h rs
reads_back_all h rs p fits all = reads_back h rs p (λ k d within. sayable_from (get_or rs k d) (all k d within) (fits k d within))

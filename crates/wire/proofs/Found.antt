-- A text that was written is found field by field. Assumes nothing.
use Rattle.std.proofs.Common.{◌≡◌, ℕ, ◌+◌, ◌*◌, ◌/◌, ◌%◌, ◌<◌, List, [], ◌∷◌, ◌++◌, length, drop, refl, ap, ◌∙◌, append_assoc, arith, length-append}
use Rattle.std.proofs.lemmas.List.{take_at, drop_at}
use Rattle.memory.specs.declared.lines.Line.{Line}
use Rattle.memory.specs.declared.records.Record.{Record}
use Rattle.memory.specs.Admission.{logged}
use Rattle.wire.specs.Bytes.{field, all_of, entry_bytes, run_bytes, line_bytes, lines_body, paper_bytes}
use Rattle.wire.specs.Fields.{Piece, whole, pieces}
use Rattle.wire.proofs.Walk.{found_whole}

-- a field is found as it was written
pub field_found : (tag : ℕ) (c rest : List ℕ) → length c < 65536 → pieces (field tag c ++ rest) ≡ whole tag c ∷ pieces rest
field_found tag c rest h =
    let n : ℕ = length c / 256 % 256 * 256 + length c % 256 in
    let long : length c ≡ n = omega arith in
    found_whole tag (length c / 256 % 256) (length c % 256) (c ++ rest) (omega (arith, length-append c rest))
    ∙ ap (λ x. whole tag x ∷ pieces (drop n (c ++ rest))) (take_at c rest n long)
    ∙ ap (λ x. whole tag c ∷ pieces x) (drop_at c rest n long)

none_found : pieces [] ≡ []
unfolding pieces
none_found = refl

-- the fields of elements, each with the tag and the content of its element
module _ {X : Type 0} (tag : ℕ) (content : X → List ℕ) where
  abbrev pub wholes_of : List X → List Piece
  wholes_of [] = []
  wholes_of (x ∷ xs) = whole tag (content x) ∷ wholes_of xs

  pub all_found : ((x : X) → length (content x) < 65536) → (xs : List X) (rest : List ℕ) → pieces (all_of (λ x. field tag (content x)) xs ++ rest) ≡ wholes_of xs ++ pieces rest
  all_found few [] rest = refl
  all_found few (x ∷ xs) rest =
      let others : List ℕ = all_of (λ x. field tag (content x)) xs in
      ap pieces (append_assoc (field tag (content x)) others rest)
      ∙ field_found tag (content x) (others ++ rest) (few x)
      ∙ ap (λ ps. whole tag (content x) ∷ ps) (all_found few xs rest)

-- a text: a head, a body whose fields are found before whatever follows, an end
text_found : (head end : ℕ) (c body : List ℕ) (ps : List Piece) → length c < 65536 →
    ((rest : List ℕ) → pieces (body ++ rest) ≡ ps ++ pieces rest) → pieces (field head c ++ (body ++ field end [])) ≡ whole head c ∷ (ps ++ whole end [] ∷ [])
text_found head end c body ps few found =
    field_found head c (body ++ field end []) few
    ∙ ap (λ qs. whole head c ∷ qs) (found (field end []) ∙ ap (λ qs. ps ++ qs) (field_found end [] [] (omega arith) ∙ ap (λ qs. whole end [] ∷ qs) none_found))

-- the fields of records
abbrev pub wholes : List Record → List Piece
wholes = wholes_of 2 (λ r. entry_bytes (logged r))

-- the fields of a run
pub run_found : (p model clock : ℕ) (rs : List Record) → pieces (run_bytes p model clock rs) ≡ whole 1 (p ∷ model ∷ clock ∷ []) ∷ (wholes rs ++ whole 3 [] ∷ [])
run_found p model clock rs = text_found 1 3 (p ∷ model ∷ clock ∷ []) _ (wholes rs) (omega arith) (all_found 2 (λ r. entry_bytes (logged r)) (λ r. omega arith) rs)

-- the fields of a paper, by those of its body
pub paper_found : (v model clock n : ℕ) (body : List ℕ) (ps : List Piece) → ((rest : List ℕ) → pieces (body ++ rest) ≡ ps ++ pieces rest) →
    pieces (paper_bytes v model clock n body) ≡ whole 16 (v ∷ model ∷ clock ∷ n ∷ []) ∷ (ps ++ whole 31 [] ∷ [])
paper_found v model clock n body ps found = text_found 16 31 (v ∷ model ∷ clock ∷ n ∷ []) body ps (omega arith) found

pub lines_found : (ls : List Line) (rest : List ℕ) → pieces (lines_body ls ++ rest) ≡ wholes_of 17 line_bytes ls ++ pieces rest
lines_found = all_found 17 line_bytes (λ l. omega arith)

-- The first bad line. Assumes nothing.
use Rattle.std.proofs.Common.{◌≡◌, ℕ, ◌+◌, ◌-◌, ◌<◌, List, [], ◌∷◌, ◌++◌, length, take, Ok, Err, Result, IsOk, sym, ap, ◌∙◌, arith, subst, refl}
use Prim.Native.Nat.{suc}
use Rattle.logs.specs.declared.headings.Heading.{Heading}
use Rattle.logs.specs.declared.reading.Access.{Access}
use Rattle.logs.specs.declared.statements.Statement.{Statement}
use Rattle.logs.specs.declared.troubles.BadLine.{BadLine}
use Rattle.logs.specs.declared.troubles.Expected.{Expected}
use Rattle.logs.specs.Parts.{and_then}
use Rattle.logs.specs.Reading.{Said, lines_read, line_read, said_by, unsaid, access_at, in_line, IsFirstBad}

-- k lines in front say a log, and the next is bad
record Found (n : ℕ) (h : Heading) (before : List Access) (lines : List (List ℕ)) (bad : BadLine) : Type 0 where
  k : ℕ
  place : bad.line ≡ n + k
  within : k < length lines
  front : IsOk (lines_read n h before (take k lines))
  behind : (more : List (List ℕ)) → lines_read n h before (take (suc k) lines ++ more) ≡ Err bad

abbrev line_or : {A : Type 0} → ℕ → Result A BadLine → ℕ
line_or n (Ok x) = n
line_or n (Err bad) = bad.line

abbrev bad_or : {A : Type 0} → BadLine → Result A BadLine → BadLine
bad_or d (Ok x) = d
bad_or d (Err bad) = bad

line_in : {A : Type 0} (n : ℕ) (r : Result A Expected) (bad : BadLine) → in_line n r ≡ Err bad → bad.line ≡ n
line_in n (Ok x) bad e = sym (ap (line_or n) e)
line_in n (Err x) bad e = sym (ap (line_or n) e)

bad_place : (n : ℕ) (h : Heading) (l : List ℕ) (bad : BadLine) → line_read n h l ≡ Err bad → bad.line ≡ n
unfolding line_read
bad_place n h l bad e = line_in n _ bad e

found : (n : ℕ) (h : Heading) (before : List Access) (lines : List (List ℕ)) (bad : BadLine) → lines_read n h before lines ≡ Err bad → Found n h before lines bad
unfolding lines_read
found n h before [] bad e = absurd (cc)
found n h before (l ∷ ls) bad e =
    let on : List (List ℕ) → Result (Heading × Statement) BadLine → Result Said BadLine = λ rest r. and_then r (λ x. lines_read (n + 1) x.0 (before ++ access_at n x.1) rest) in
    (elim (line_read n h l) as (λ r. line_read n h l ≡ r → Found n h before (l ∷ ls) bad) [
      | Ok x ↦ λ is.
          let f = found (n + 1) x.0 (before ++ access_at n x.1) ls bad (sym (ap (on ls) is) ∙ e) in
          record {
            k = suc f.k;
            place = omega (arith, f.place);
            within = omega (arith, f.within);
            front = subst IsOk (sym (ap (on (take f.k ls)) is)) f.front;
            behind = λ more. ap (on (take (suc f.k) ls ++ more)) is ∙ f.behind more;
          }
      | Err b ↦ λ is.
          let same : Err b ≡ Err bad = sym (ap (on ls) is) ∙ e in
          let it : b ≡ bad = ap (bad_or b) same in
          record {
            k = 0;
            place = omega (arith, bad_place n h l b is, ap (λ x. x.line) it);
            within = omega arith;
            front = refl;
            behind = λ more. ap (on more) is ∙ same;
          }
    ]) refl

pub first_bad : (lines : List (List ℕ)) (bad : BadLine) → said_by lines ≡ Err bad → IsFirstBad lines bad
unfolding said_by
first_bad lines bad e =
    let f = found 1 unsaid [] lines bad e in
    let k : bad.line ≡ suc f.k = omega (arith, f.place) in
    let j : f.k ≡ bad.line - 1 = omega (arith, k) in
    record {
      some = omega (arith, k);
      within = omega (arith, k, f.within);
      before = subst (λ i. IsOk (lines_read 1 unsaid [] (take i lines))) j f.front;
      behind = λ more. ap (λ i. lines_read 1 unsaid [] (take i lines ++ more)) k ∙ f.behind more;
    }

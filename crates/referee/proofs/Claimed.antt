-- Reading the head of a paper: where it claims something, its body follows behind 7 bytes. Assumes nothing.
use Rattle.std.proofs.Common.{◌≡◌, ℕ, ◌==◌, cond, Bool, true, false, List, length, Ok, Err, refl, sym, ap, ◌∙◌, arith}
use Rattle.std.proofs.lemmas.Bool.Decides.{nat_tests}
use Rattle.memory.specs.Runs.{Setting}
use Rattle.wire.specs.declared.fields.Reader.{Reader}
use Rattle.wire.specs.declared.fields.Text.TheVariants.{Paper}
use Rattle.wire.specs.Fields.{pieces, Sort, head_field, Shown, next_field, later, paper_head_in, fault_at}
use Rattle.wire.specs.Seen.{left, Passed}
use Rattle.referee.specs.declared.papers.Claim.{Claim}
use Rattle.referee.specs.Papers.{claim_sort, claim_read, first_claim}

-- a head that claims something has four bytes
head_size : (S : Setting) (count : ℕ) (f : Shown) (c : Claim) (b : Bool) → (length f.content == 4) ≡ b → claim_read S count f.place (cond b (Ok (paper_head_in f.content)) (Err (fault_at f.place))) ≡ Ok c → length f.content ≡ 4
head_size S count f c true is claims = grind (arith, nat_tests)
head_size S count f c false is claims = absurd (cc)

claimed_size : (s : Sort) (S : Setting) (count : ℕ) (f : Shown) (c : Claim) → claim_sort s S count f ≡ Ok c → length f.content ≡ 4
claimed_size head_field S count f c claims = head_size S count f c (length f.content == 4) refl claims
claimed_size s S count f c claims = absurd (cc)

-- the reader that has read a first field which claims something stands before the body
pub record Claimed (S : Setting) (count : ℕ) (bs : List ℕ) (r : Reader) (c : Claim) : Type 0 where
  pub claim : first_claim S count (next_field Paper 0 (pieces bs)) ≡ Ok c
  pub at : r.at ≡ 7
  pub body : left r ≡ later (pieces bs)
  pub size : length r.bytes.now ≡ length bs

pub claimed : (S : Setting) (count : ℕ) (bs : List ℕ) (first r : Reader) (f : Shown) (c : Claim) → first.bytes.now ≡ bs → first.at ≡ 0 → first.text ≡ Paper → r.bytes ≡ first.bytes → Passed first r f → Ok f ≡ next_field first.text first.at (left first) → Ok c ≡ claim_sort f.sort S count f → Claimed S count bs r c
claimed S count bs first r f c whole start text bytes p is claims =
    let size = claimed_size f.sort S count f c (sym claims) in
    let all : left first ≡ pieces bs = rw (start, whole) refl in
    let read : next_field Paper 0 (pieces bs) ≡ Ok f = (λ i. next_field (sym text i) (sym start i) (sym all i)) ∙ sym is in
    record {
      claim = rw read (sym claims);
      at = omega (arith, p.moved);
      body = p.rest ∙ ap later all;
      size = ap (λ b. length b.now) bytes ∙ ap length whole;
    }

-- The run that a case writes loads as the same records. Assumes nothing.
use Rattle.std.proofs.Common.{◌≡◌, ℕ, ◌+◌, ◌*◌, ◌^◌, ◌<◌, true, ◌&&◌, ltb, leb, List, [], ◌∷◌, ◌++◌, length, is_ok, Ok, sym, refl, ap, ◌∙◌, append_assoc, append-nil, arith, length-append}
use Rattle.std.proofs.lemmas.Bool.{and_parts, or_parts, leb-false, ltb-true, eq-eqb, le-ltb}
use Rattle.memory.specs.declared.records.Record.{Record}
use Rattle.memory.specs.Admission.{opens, logged, judgement, admits, sized}
use Rattle.memory.specs.Kinds.{kind_number}
use Rattle.memory.specs.Limits.{reading_limit}
use Rattle.memory.proofs.Admitted.{judged, admits_again}
use Rattle.wire.specs.Bytes.{field, all_of, digits, number_on, entry_bytes, entry_in, record_field, run_bytes}
use Rattle.wire.specs.Fields.{whole, entry_of}
use Rattle.wire.specs.Said.{entry_read}
use Rattle.wire.proofs.Digits.{digits_back}
use Rattle.wire.proofs.Found.{wholes, run_found}
use Rattle.wire.proofs.InOrder.{records_long}
use Rattle.case.specs.State.{State, holding}
use Rattle.case.specs.Calls.{sealed, sealed_verdict}
use Rattle.case.specs.Loading.{Loaded, load_said, load_fields, loading, ended_as, Reloads}

-- the bytes of a record say what was logged
entry_back : (r : Record) → r.address < 256 ^ 4 → r.value < 256 ^ 8 → r.enter < 256 ^ 8 → r.commit < 256 ^ 8 → entry_in (entry_bytes (logged r)) ≡ logged r
entry_back r a v e c =
    let a' : number_on 0 (digits 4 r.address) ≡ r.address = digits_back 4 r.address a in
    let v' : number_on 0 (digits 8 r.value) ≡ r.value = digits_back 8 r.value v in
    let e' : number_on 0 (digits 8 r.enter) ≡ r.enter = digits_back 8 r.enter e in
    let c' : number_on 0 (digits 8 r.commit) ≡ r.commit = digits_back 8 r.commit c in
    λ i. record { processor = r.processor; kind = kind_number r.kind; address = a' i; value = v' i; enter = e' i; commit = c' i }

record_loads : (p at next : ℕ) (rs : List Record) (r : Record) (rest : State → Loaded) → is_ok (judgement p rs (logged r)) ≡ true → (ltb r.address 4294967296 && ltb r.value 18446744073709551616) ≡ true →
    load_said (entry_read at (entry_of at (entry_bytes (logged r)))) next (holding p rs) rest ≡ rest (holding p (rs ++ r ∷ []))
record_loads p at next rs r rest ok sz =
    let j = admits_again p rs r ok in
    let early = or_parts (leb reading_limit r.enter) (leb reading_limit r.commit) (judged p rs (logged r) r j).1.early in
    let size = and_parts (ltb r.address 4294967296) (ltb r.value 18446744073709551616) sz in
    let says = entry_back r (ltb-true _ _ size.0) (ltb-true _ _ size.1) (omega (arith, leb-false reading_limit r.enter early.0)) (omega (arith, leb-false reading_limit r.commit early.1)) in
    rw (says, j) refl

-- the records one after the other, and the end
fields_load : (p at : ℕ) (rs more : List Record) → admits p rs more ≡ true → sized more ≡ true →
    load_fields (holding p rs) at (wholes more ++ whole 3 [] ∷ []) ≡ ended_as (holding p (rs ++ more)) (Ok (at + 33 * length more + 3))
unfolding load_fields
fields_load p at rs [] adm sz =
    let end : at + 3 + 0 ≡ at + 33 * 0 + 3 = omega arith in
    let all = sym (append-nil rs) in
    λ i. ended_as (holding p (all i)) (Ok (end i))
fields_load p at rs (r ∷ more) adm sz =
    let a = and_parts (is_ok (judgement p rs (logged r))) (admits p (rs ++ r ∷ []) more) adm in
    let b = and_parts (ltb r.address 4294967296 && ltb r.value 18446744073709551616) (sized more) sz in
    let end : at + 3 + 30 + 33 * length more + 3 ≡ at + 33 * length (r ∷ more) + 3 = omega arith in
    let all = append_assoc rs (r ∷ []) more in
    record_loads p at (at + 3 + 30) rs r (λ t. load_fields t (at + 3 + 30) (wholes more ++ whole 3 [] ∷ [])) a.0 b.0
    ∙ fields_load p (at + 3 + 30) (rs ++ r ∷ []) more a.1 b.1
    ∙ (λ i. ended_as (holding p (all i)) (Ok (end i)))

pub reloads : (m k : ℕ) (before s : State) → opens s.processors ≡ true → admits s.processors [] s.records ≡ true → sized s.records ≡ true → Reloads m k before s (run_bytes s.processors m k s.records)
reloads m k before s o adm sz = record { answer = ap (λ x. x.answer) all; processors = ap (λ x. x.state.processors) all; records = ap (λ x. x.state.records) all }
  where
    all : loading m k before (run_bytes s.processors m k s.records) ≡ record { answer = Ok (sealed_verdict s.records); state = sealed (holding s.processors s.records) }
    all =
        let rs = s.records in
        let n : ℕ = length (run_bytes s.processors m k rs) in
        let long : n ≡ 6 + 33 * length rs + 3 = omega (arith, length-append (all_of record_field rs) (field 3 []), records_long rs) in
        rw (run_found s.processors m k rs, eq-eqb m m refl, eq-eqb k k refl, o, fields_load s.processors 6 [] rs adm sz, le-ltb (6 + 33 * length rs + 3) n (omega arith)) refl

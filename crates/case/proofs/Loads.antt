-- What the bytes say of the case, once the head has passed. Assumes nothing.
use Rattle.std.proofs.Common.{◌≡◌, ℕ, ◌+◌, ◌*◌, ◌<◌, ◌≤◌, List, [], ◌∷◌, ◌++◌, length, take, drop, Ok, Err, refl, sym, ap, ◌∙◌, append_assoc, arith, length-append}
use Rattle.std.proofs.lemmas.List.{take_at, length-drop, drop_all}
use Rattle.wire.specs.declared.faults.RunFault.{RunFault}
use Rattle.wire.specs.declared.fields.Reader.{Reader}
use Rattle.wire.specs.declared.fields.RunHead.{RunHead}
use Rattle.wire.specs.declared.fields.Text.TheVariants.{Run}
use Rattle.wire.specs.Bytes.{field, all_of, record_field, run_head, run_bytes}
use Rattle.wire.specs.Fields.{Shown, tag_of, run_head_content}
use Rattle.wire.specs.Said.{head_said}
use Rattle.wire.specs.Seen.{Passed}
use Rattle.wire.specs.Tags.{run_end_tag}
use Rattle.wire.proofs.InOrder.{records_long}
use Rattle.case.specs.State.{State, opened}
use Rattle.case.specs.Loading.{place_of, Front, Kept}
use Rattle.case.specs.Parts.{Walked}
use Rattle.case.proofs.Said.{said_head}

-- the bytes of a head that passed
pub head_first : (model clock : ℕ) {r after : Reader} {f : Shown} {h : RunHead} → r.text ≡ Run → r.at ≡ 0 → Passed r after f → head_said model clock f ≡ Ok h → run_head_content h ≡ f.content →
    r.bytes.now ≡ run_head h.processors model clock ++ drop after.at r.bytes.now
head_first model clock {r} {after} {f} {h} text start p said back =
    let is = said_head model clock f h said in
    let m = is.1 in
    let k = is.2 in
    let content = sym back ∙ (λ i. h.processors ∷ m i ∷ k i ∷ []) in
    sym (ap (λ n. drop n r.bytes.now) start) ∙ p.bytes ∙ (let sort = is.0 in λ i. field (tag_of (text i) (sort i)) (content i) ++ drop after.at r.bytes.now)

module _ (model clock p : ℕ) {bs left : List ℕ} {at : ℕ} {u : State} (head : bs ≡ run_head p model clock ++ drop at bs) (w : Walked bs at (opened p) left u) where
  -- all bytes: the head, the records, and what is left
  whole : bs ≡ run_head u.processors model clock ++ (all_of record_field u.records ++ left)
  whole =
      let q = sym w.processors in
      let rs = sym w.records in
      head ∙ ap (λ l. run_head p model clock ++ l) w.bytes ∙ (λ i. run_head (q i) model clock ++ (all_of record_field (rs i) ++ left))

  -- where no byte is left behind the end, they are those of the run
  pub whole_run : (to : ℕ) → left ≡ field run_end_tag [] ++ drop to bs → length bs ≤ to → run_bytes u.processors model clock u.records ≡ bs
  whole_run to is end = sym (whole ∙ rw (is, drop_all to bs end) refl)

  front : Front model clock u bs
  front =
      let h = run_head u.processors model clock in
      let body = all_of record_field u.records in
      let long : length (h ++ body) ≡ 6 + 33 * length u.records = omega (arith, length-append h body, records_long u.records) in
      ap (take (6 + 33 * length u.records)) (whole ∙ sym (append_assoc h body left)) ∙ take_at (h ++ body) left (6 + 33 * length u.records) long

  -- at a fault behind the head
  pub kept : (s : State) (e : RunFault) → 0 < place_of e → Kept model clock s u bs (Err e)
  kept s e some = (λ z. absurd (omega arith), λ _. front)

  -- the fields do not end where the head begins
  pub ended_behind : (to : ℕ) → left ≡ field run_end_tag [] ++ drop to bs → to < length bs → 0 < to
  ended_behind to is more = omega (arith, ap length whole, ap length is, length-append (all_of record_field u.records) left, length-append (field run_end_tag []) (drop to bs), length-drop to bs)

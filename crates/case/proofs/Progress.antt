-- How far loading has come, from field to field. Assumes nothing.
use Rattle.std.proofs.Common.{◌≡◌, ℕ, ◌+◌, ◌*◌, List, [], ◌∷◌, ◌++◌, length, drop, Some, None, Ok, Err, refl, sym, ap, ◌∙◌, append_assoc, append-nil, arith, length-append}
use Rattle.memory.specs.declared.records.Record.{Record}
use Rattle.memory.specs.declared.refusals.Refusal.{Refusal}
use Rattle.memory.specs.Admission.{judgement}
use Rattle.memory.proofs.Admitted.{logged_back}
use Rattle.wire.specs.declared.faults.ByteFault.{ByteFault}
use Rattle.wire.specs.declared.faults.RunFault.{RunFault}
use Rattle.wire.specs.declared.faults.RunFault.TheVariants.{Bytes, Content}
use Rattle.wire.specs.declared.fields.Reader.{Reader}
use Rattle.wire.specs.declared.fields.Text.TheVariants.{Run}
use Rattle.wire.specs.declared.runs.EntryAt.{EntryAt}
use Rattle.wire.specs.Bytes.{entry_bytes}
use Rattle.wire.specs.Fields.{Piece, Shown, next_field, later}
use Rattle.wire.specs.Said.{entry_said}
use Rattle.wire.specs.Seen.{left, Passed}
use Rattle.wire.proofs.InOrder.{all_of_end}
use Rattle.case.specs.State.{State, with_record}
use Rattle.case.specs.Loading.{Loaded, stopped, ended_as, load_judged, load_said, load_field, load_fields}
use Rattle.case.specs.Parts.{Walked}
use Rattle.case.proofs.Said.{said_entry}

-- a field more of a list of fields
fields_step : (s : State) (at : ℕ) (ps : List Piece) → load_fields s at ps ≡ load_field (next_field Run at ps) s (λ t next. load_fields t next (later ps))
unfolding load_fields
fields_step s at [] = refl
fields_step s at (p ∷ ps) = refl

-- from the reader's first place, where the case was s, loading has come to another, where it is t
pub record Progress (first : Reader) (s : State) (r : Reader) (t : State) : Type 0 where
  pub bytes : r.bytes ≡ first.bytes
  pub text : r.text ≡ Run
  pub walked : Walked first.bytes.now first.at s (drop r.at first.bytes.now) t
  -- each record has 33 bytes
  pub place : r.at ≡ first.at + 33 * length walked.more
  pub same : load_fields s first.at (left first) ≡ load_fields t r.at (left r)

pub progress_begins : (r : Reader) (s : State) → r.text ≡ Run → Progress r s r s
progress_begins r s text = record { bytes = refl; text = text; walked = record { more = []; records = sym (append-nil s.records); processors = refl; bytes = refl }; place = omega arith; same = refl }

module _ {first r : Reader} {s t : State} (h : Progress first s r t) where
  -- the place says how many records there are more
  pub progress_place : r.at + 33 * length s.records ≡ first.at + 33 * length t.records
  progress_place = omega (arith, h.place, ap length h.walked.records, length-append s.records h.walked.more)

  -- no field stands there
  pub fell_reading : (e : ByteFault) → Err e ≡ next_field r.text r.at (left r) → load_fields s first.at (left first) ≡ stopped t (Bytes e)
  fell_reading e is = h.same ∙ fields_step t r.at (left r) ∙ rw (← h.text, ← is) refl

  -- a field was read there
  module _ {after : Reader} {f : Shown} (p : Passed r after f) (is : Ok f ≡ next_field r.text r.at (left r)) where
    abbrev rest : State → Loaded
    rest v = load_fields v after.at (left after)

    step : load_fields s first.at (left first) ≡ load_said (entry_said f) after.at t rest
    step =
        let behind : f.place + 3 + length f.content ≡ after.at = omega (arith, p.place, p.moved) in
        let others = sym p.rest in
        h.same ∙ fields_step t r.at (left r) ∙ rw (← h.text, ← is) (λ i. load_said (entry_said f) (behind i) t (λ v. load_fields v (behind i) (others i)))

    -- it is at fault
    pub fell_saying : (e : RunFault) → entry_said f ≡ Err e → load_fields s first.at (left first) ≡ stopped t e
    fell_saying e said = step ∙ ap (λ x. load_said x after.at t rest) said

    -- it is the end
    pub ended_there : entry_said f ≡ Ok None → load_fields s first.at (left first) ≡ ended_as t (Ok after.at)
    ended_there said = step ∙ ap (λ x. load_said x after.at t rest) said

    -- it says an entry
    module _ (x : EntryAt) (said : entry_said f ≡ Ok (Some x)) where
      judged : load_fields s first.at (left first) ≡ load_judged (judgement t.processors t.records x.entry) x.place t rest
      judged = step ∙ ap (λ y. load_said y after.at t rest) said

      -- that is refused
      pub fell_judging : (e : Refusal) → judgement t.processors t.records x.entry ≡ Err e → load_fields s first.at (left first) ≡ stopped t (Content e x.place)
      fell_judging e told = judged ∙ ap (λ j. load_judged j x.place t rest) told

      -- that is admitted
      pub progress_more : (one : Record) → judgement t.processors t.records x.entry ≡ Ok one → entry_bytes x.entry ≡ f.content → after.bytes ≡ r.bytes → after.text ≡ r.text → Progress first s after (with_record t one)
      progress_more one told back bytes text =
          let w = h.walked in
          let more : List Record = w.more ++ one ∷ [] in
          let content = ap entry_bytes (logged_back t.processors t.records x.entry one told) ∙ back in
          let long : length f.content ≡ 30 = ap length (sym back) in
          record {
            bytes = bytes ∙ h.bytes;
            text = text ∙ h.text;
            walked = record {
              more = more;
              records = ap (λ l. l ++ one ∷ []) w.records ∙ append_assoc s.records w.more (one ∷ []);
              processors = w.processors;
              bytes = w.bytes ∙ grind (arith, append_assoc, all_of_end, said_entry f x said, content, p.bytes);
            };
            place = omega (arith, h.place, p.moved, long, length-append w.more (one ∷ []));
            same = judged ∙ ap (λ j. load_judged j x.place t rest) told;
          }

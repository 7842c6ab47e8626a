-- Loading admits records one by one: what each of them keeps, all of them keep. Assumes nothing.
use Rattle.std.proofs.Common.{◌≡◌, ℕ, ◌+◌, Bool, true, false, cond, ltb, List, [], ◌∷◌, ◌++◌, length, Some, None, Ok, Err, Option, Result, refl, sym, ap, ◌∙◌, append_assoc, append-nil}
use Rattle.memory.specs.declared.records.Entry.{Entry}
use Rattle.memory.specs.declared.records.Record.{Record}
use Rattle.memory.specs.declared.refusals.Refusal.{Refusal}
use Rattle.memory.specs.declared.verdicts.Verdict.{Verdict}
use Rattle.memory.specs.Admission.{opens, judgement}
use Rattle.wire.specs.declared.faults.ByteFault.{ByteFault}
use Rattle.wire.specs.declared.faults.RunFault.{RunFault}
use Rattle.wire.specs.declared.faults.RunFault.TheVariants.{Bytes}
use Rattle.wire.specs.declared.fields.RunHead.{RunHead}
use Rattle.wire.specs.declared.fields.Text.TheVariants.{Run}
use Rattle.wire.specs.declared.runs.EntryAt.{EntryAt}
use Rattle.wire.specs.Fields.{Piece, pieces, Shown, fault_at, next_field, later}
use Rattle.wire.specs.Said.{first_head, entry_said}
use Rattle.case.specs.State.{State, opened, with_record}
use Rattle.case.specs.Calls.{Outcome, sealed_verdict, sealed}
use Rattle.case.specs.Loading.{Loaded, load_judged, load_said, load_field, load_fields, load_end, load_headed, loading}
use Rattle.case.proofs.Said.{said_head}

module _ (P : State → Type 0) (keeps : (s : State) (e : Entry) (r : Record) → judgement s.processors s.records e ≡ Ok r → P s → P (with_record s r)) where
  judged_keep : (s : State) → P s → (e : Entry) (at : ℕ) (rest : State → Loaded) → ((t : State) → P t → P (rest t).state) → (j : Result Record Refusal) → judgement s.processors s.records e ≡ j → P (load_judged j at s rest).state
  judged_keep s h e at rest more (Ok r) is = more (with_record s r) (keeps s e r is h)
  judged_keep s h e at rest more (Err r) is = h

  said_keep : (s : State) → P s → (next : ℕ) (rest : State → Loaded) → ((t : State) → P t → P (rest t).state) → (x : Result (Option EntryAt) RunFault) → P (load_said x next s rest).state
  said_keep s h next rest more (Ok (Some x)) = judged_keep s h x.entry x.place rest more (judgement s.processors s.records x.entry) refl
  said_keep s h next rest more (Ok None) = h
  said_keep s h next rest more (Err e) = h

  field_keep : (s : State) → P s → (rest : State → ℕ → Loaded) → ((t : State) (next : ℕ) → P t → P (rest t next).state) → (f : Result Shown ByteFault) → P (load_field f s rest).state
  field_keep s h rest more (Ok f) = let next : ℕ = f.place + 3 + length f.content in said_keep s h next (λ t. rest t next) (λ t. more t next) (entry_said f)
  field_keep s h rest more (Err e) = h

  pub fields_keep : (s : State) → P s → (at : ℕ) (ps : List Piece) → P (load_fields s at ps).state
  unfolding load_fields
  fields_keep s h at [] = h
  fields_keep s h at (p ∷ ps) = field_keep s h (λ t next. load_fields t next ps) (λ t next good. fields_keep t good next ps) (next_field Run at (p ∷ ps))

-- loading only adds records
pub fields_more : (s : State) (at : ℕ) (ps : List Piece) → (more : List Record) × ((load_fields s at ps).state.records ≡ s.records ++ more)
fields_more s = fields_keep (λ t. (more : List Record) × (t.records ≡ s.records ++ more)) (λ t e r is h. (h.0 ++ r ∷ [], ap (λ rs. rs ++ r ∷ []) h.1 ∙ append_assoc s.records h.0 (r ∷ []))) s ([], sym (append-nil s.records))

-- at the end or a fault what was kept is kept on
module _ (P Q : State → Type 0) (stops : (s : State) → P s → Q s) (seals : (s : State) → P s → Q (sealed s)) where
  pub end_keep : (r : Result ℕ RunFault) (n : ℕ) (s : State) → P s → Q (load_end r n s).state
  end_keep (Err f) n s h = stops s h
  end_keep (Ok place) n s h = by (ltb place n)
    where
      by : (b : Bool) → Q (cond {A = Outcome (Result (Option Verdict) RunFault)} b (record { answer = Err (Bytes (fault_at place)); state = s }) (record { answer = Ok (sealed_verdict s.records); state = sealed s })).state
      by true = stops s h
      by false = seals s h

-- loading begins with what an opening gives
module _ (P Q : State → Type 0) (begins : (p : ℕ) → opens p ≡ true → P (opened p)) (keeps : (s : State) (e : Entry) (r : Record) → judgement s.processors s.records e ≡ Ok r → P s → P (with_record s r)) (stops : (s : State) → P s → Q s) (seals : (s : State) → P s → Q (sealed s)) where
  pub loading_keep : (model clock : ℕ) (s : State) → Q s → (bs : List ℕ) → Q (loading model clock s bs).state
  loading_keep model clock s kept bs = by (next_field Run 0 (pieces bs))
    where
      headed : (r : Result RunHead RunFault) → ((h : RunHead) → r ≡ Ok h → opens h.processors ≡ true) → Q (load_headed r s (length bs) (later (pieces bs))).state
      headed (Ok h) lawful =
          let l = load_fields (opened h.processors) 6 (later (pieces bs)) in
          end_keep P Q stops seals l.result (length bs) l.state (fields_keep P keeps (opened h.processors) (begins h.processors (lawful h refl)) 6 (later (pieces bs)))
      headed (Err e) lawful = kept

      by : (f : Result Shown ByteFault) → Q (load_headed (first_head model clock f) s (length bs) (later (pieces bs))).state
      by (Ok f) = headed (first_head model clock (Ok f)) (λ h is. (said_head model clock f h is).3)
      by (Err e) = kept

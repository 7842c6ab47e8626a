-- Reading a run into a list, field after field. Assumes nothing.
use Rattle.std.proofs.Common.{◌≡◌, ℕ, ◌+◌, ◌*◌, true, false, leb, List, [], ◌∷◌, ◌++◌, length, take, drop, Some, Ok, Err, Option, Result, refl, sym, ap, ◌∙◌, subst, inl, inr, append_assoc, append-nil, arith, length-append}
use Rattle.std.specs.Result.{result_err}
use Rattle.std.proofs.lemmas.List.{take_at, length-drop}
use Rattle.std.proofs.lemmas.Bool.{le-leb, false_from_ne_true, leb-true}
use Rattle.memory.specs.declared.records.Record.{Record}
use Rattle.memory.specs.declared.refusals.Refusal.TheVariants as refuse
use Rattle.memory.specs.declared.verdicts.Verdict.{Verdict}
use Rattle.memory.specs.Admission.{judgement}
use Rattle.wire.specs.declared.faults.RunFault.{RunFault}
use Rattle.wire.specs.declared.faults.RunFault.TheVariants.{Content}
use Rattle.wire.specs.declared.fields.Reader.{Reader}
use Rattle.wire.specs.declared.fields.RunHead.{RunHead}
use Rattle.wire.specs.declared.fields.Text.TheVariants.{Run}
use Rattle.wire.specs.declared.runs.EntryAt.{EntryAt}
use Rattle.wire.specs.Bytes.{entry_bytes}
use Rattle.wire.specs.Fields.{Piece, Shown, pieces, next_field, later}
use Rattle.wire.specs.Said.{entry_said, head_said, first_head}
use Rattle.wire.specs.Seen.{left, Passed}
use Rattle.case.specs.State.{State, opened, holding, with_record}
use Rattle.case.specs.Calls.{Outcome}
use Rattle.case.specs.Loading.{Loaded, ended_as, load_fields, load_end, go_on, load_headed, loading}
use Rattle.case.proofs.More.{fields_more, end_keep}
use Rattle.case.proofs.Progress.{Progress, progress_begins, progress_place, progress_more, fell_judging}
use Rattle.case.proofs.Said.{said_entry}
use Rattle.lists.specs.declared.lent.LentList.{LentList}
use Rattle.lists.specs.Lists.{entries, rest, Grown}
use Rattle.lists.proofs.Grown.{grown_none, grown_more}
use Rattle.referee.specs.Runs.{read_within, read_run}
use Rattle.referee.specs.Taken.{held, NotTaken, RecordTaken, ReadInto, IsRead}

-- how far reading has come: as far as loading, and each record that came is in the list
pub record Reading (p : ℕ) (first : Reader) (before : LentList Record) (r : Reader) (l : LentList Record) : Type 0 where
  pub progress : Progress first (held p before) r (held p l)
  pub more : List Record
  pub grown : Grown before l more

pub reading_begins : (p : ℕ) (r : Reader) (l : LentList Record) → r.text ≡ Run → Reading p r l r l
reading_begins p r l text = record { progress = progress_begins r (held p l) text; more = []; grown = grown_none l }

-- a field was read, which says an entry
module _ {p : ℕ} {first r after : Reader} {before l : LentList Record} (h : Reading p first before r l) {f : Shown} (passed : Passed r after f) (is : Ok f ≡ next_field r.text r.at (left r))
    (x : EntryAt) (said : entry_said f ≡ Ok (Some x)) (back : entry_bytes x.entry ≡ f.content) (bytes : after.bytes ≡ r.bytes) (text : after.text ≡ r.text) where
  onward : (one : Record) → judgement p (entries l) x.entry ≡ Ok one → Progress first (held p before) after (with_record (held p l) one)
  onward one lawful = progress_more h.progress passed is x said one lawful back bytes text

  -- it was taken
  pub reading_more : (m : LentList Record) → RecordTaken p x l m (Ok tt) → Reading p first before after m
  reading_more m (one, lawful, grown) = record {
    progress = subst (Progress first (held p before) after) (sym (ap (holding p) grown.entries)) (onward one lawful);
    more = h.more ++ one ∷ [];
    grown = grown_more h.grown grown;
  }

  -- it was not taken
  pub fell_taking : (m : LentList Record) (e : RunFault) (to : ℕ) → RecordTaken p x l m (Err e) → ReadInto (load_fields (held p before) first.at (left first)) p first.at before m (Err e) to
  fell_taking m e to (why, same) = by why
    where
      all : entries m ≡ entries l
      all = same.entries ∙ append-nil (entries l)

      full : Loaded
      full = load_fields (held p before) first.at (left first)

      -- since it is not lawful, or since no place is left
      by : NotTaken p x l e → ReadInto full p first.at before m (Err e) to
      by (inl (refusal, told, fault)) =
          let same_state : held p l ≡ held p m = sym (ap (holding p) all) in
          inl (fell_judging h.progress passed is x said refusal told ∙ (λ i. ended_as (same_state i) (Err (sym fault i))))
      by (inr (one, lawful, none, fault)) =
          let more = onward one lawful in
          let others = fields_more (with_record (held p l) one) after.at (left after) in
          inr record {
            place = x.place;
            at = omega (arith, (said_entry f x said).1, passed.place, progress_place h.progress, ap length all);
            fault = ap Err fault;
            none = same.rest ∙ none;
            one = one;
            others = others.0;
            more = ap (λ t. t.state.records) more.same ∙ others.1 ∙ append_assoc (entries l) (one ∷ []) others.0 ∙ ap (λ rs. rs ++ one ∷ others.0) (sym all);
          }

module _ {before after : LentList Record} (none : entries before ≡ []) (more : List Record) (grown : Grown before after more) where
  all : more ≡ entries after
  all = sym (grown.entries ∙ ap (λ l. l ++ more) none)

  module _ (model clock : ℕ) (bs : List ℕ) where
    -- what was read is what is told
    told : (f : Option RunFault) → read_run model clock (length (rest before)) bs ≡ record { records = entries after; fault = f } → IsRead model clock before after bs f
    told f is = record { fault = sym (ap (λ r. r.fault) is); records = subst (Grown before after) (all ∙ sym (ap (λ r. r.records) is)) grown }

    -- loading came to the end or a fault with the same records
    pub read_all : (o : Outcome (Result (Option Verdict) RunFault)) → loading model clock (opened 1) bs ≡ o → o.state.records ≡ entries after → IsRead model clock before after bs (result_err o.answer)
    read_all o is same =
        let places : ℕ = length (rest before) in
        let fits : leb (length (entries after)) places ≡ true = le-leb _ _ (omega (arith, grown.room, ap length all)) in
        told (result_err o.answer)
        (ap (λ o. read_within (leb (length o.state.records) places) places o.state.records (result_err o.answer)) is
        ∙ ap (λ rs. read_within (leb (length rs) places) places rs (result_err o.answer)) same
        ∙ ap (λ b. read_within b places (entries after) (result_err o.answer)) fits)

    -- or it had more of them
    pub read_short : (place : ℕ) (one : Record) (others : List Record) → place ≡ 6 + 33 * length (entries after) → rest after ≡ [] → (loading model clock (opened 1) bs).state.records ≡ entries after ++ one ∷ others → IsRead model clock before after bs (Some (Content refuse.Short place))
    read_short place one others at full is =
        let o = loading model clock (opened 1) bs in
        let places : ℕ = length (rest before) in
        let long : places ≡ length (entries after) = omega (arith, grown.room, ap length all, ap length grown.rest, ap length full, length-drop (length more) (rest before)) in
        let over : leb (length o.state.records) places ≡ false = false_from_ne_true _ (λ e. absurd (omega (arith, leb-true _ _ e, long, ap length is, length-append (entries after) (one ∷ others)))) in
        let front : take places o.state.records ≡ entries after = ap (take places) is ∙ take_at (entries after) (one ∷ others) places (sym long) in
        let there : 6 + 33 * places ≡ place = omega (arith, at, long) in
        told (Some (Content refuse.Short place))
        (ap (λ b. read_within b places o.state.records (result_err o.answer)) over ∙ (λ i. record { records = front i; fault = Some (Content refuse.Short (there i)) }))

-- behind a head that passed loading goes on with the fields
pub headed : (model clock : ℕ) {r after : Reader} {f : Shown} {h : RunHead} → r.text ≡ Run → r.at ≡ 0 → Ok f ≡ next_field r.text r.at (left r) → Passed r after f → head_said model clock f ≡ Ok h → after.at ≡ 6 →
    loading model clock (opened 1) r.bytes.now ≡ go_on (length r.bytes.now) (load_fields (opened h.processors) after.at (left after))
headed model clock {r} {after} {f} {h} text start read passed said at =
    let bs : List ℕ = r.bytes.now in
    let first : Ok f ≡ next_field Run 0 (pieces bs) = read ∙ (λ i. next_field (text i) (start i) (pieces (drop (start i) bs))) in
    let rest : later (pieces bs) ≡ left after = sym (passed.rest ∙ ap (λ n. later (pieces (drop n bs))) start) in
    let six = sym at in
    ap (λ x. load_headed (first_head model clock x) (opened 1) (length bs) (later (pieces bs))) (sym first)
    ∙ ap (λ x. load_headed x (opened 1) (length bs) (later (pieces bs))) said
    ∙ (λ i. go_on (length bs) (load_fields (opened h.processors) (six i) (rest i)))

-- the end, or a fault there, changes no record
end_records : (x : Result ℕ RunFault) (n : ℕ) (s : State) → (load_end x n s).state.records ≡ s.records
end_records x n s = let same = λ (t : State). t.records ≡ s.records in end_keep same same (λ t h. h) (λ t h. h) x n s refl

-- reading ended with a fault among the fields, which begin behind a head of 6 bytes
module _ (model clock p : ℕ) {before after : LentList Record} (none : entries before ≡ []) (more : List Record) (grown : Grown before after more) (bs : List ℕ) (from to : ℕ) (six : from ≡ 6) (ps : List Piece) (e : RunFault)
    (went : loading model clock (opened 1) bs ≡ go_on (length bs) (load_fields (opened p) from ps)) where
  abbrev pub full : Loaded
  full = load_fields (held p before) from ps

  began : loading model clock (opened 1) bs ≡ go_on (length bs) full
  began = went ∙ ap (λ s. go_on (length bs) (load_fields s from ps)) (sym (ap (holding p) none))

  same_fault : {x : RunFault} → ◌≡◌ {A = Result (Unit {0}) RunFault} (Err e) (Err x) → e ≡ x
  same_fault is = cc

  pub read_fell : ReadInto full p from before after (Err e) to → IsRead model clock before after bs (Some e)
  read_fell (inl same) = read_all none more grown model clock bs (record { answer = Err e; state = held p after }) (began ∙ ap (go_on (length bs)) same) refl
  read_fell (inr ran) =
      let at : ran.place ≡ 6 + 33 * length (entries after) = omega (arith, ran.at, six, ap length none) in
      let records = ap (λ o. o.state.records) began ∙ end_records full.result (length bs) full.state ∙ ran.more in
      subst (λ x. IsRead model clock before after bs (Some x)) (sym (same_fault ran.fault)) (read_short none more grown model clock bs ran.place ran.one ran.others at ran.none records)

-- The referee accepts the paper of a good case beside its run. Assumes nothing.
use Rattle.std.proofs.Common.{◌≡◌, ℕ, ◌≤◌, true, List, length, Some, None, Ok, Err, Result, refl, ap, ◌∙◌, subst, arith}
use Rattle.std.specs.Option.{option_map}
use Rattle.std.specs.Result.{result_ok}
use Rattle.std.proofs.lemmas.Bool.{le-leb}
use Rattle.memory.specs.declared.verdicts.Verdict.{Verdict}
use Rattle.memory.specs.declared.verdicts.Verdict.TheVariants.{Order, Opposed, Orphan, Exhausted}
use Rattle.memory.specs.Admission.{sized}
use Rattle.memory.specs.Limits.{most_records, most_lines}
use Rattle.memory.specs.Numbers.{verdict_number}
use Rattle.memory.specs.Runs.{Setting, Run, run_of}
use Rattle.memory.proofs.Lawful.{lawful_all}
use Rattle.inference.proofs.Pairs.{few_lines_64}
use Rattle.wire.specs.declared.faults.PaperFault.{PaperFault}
use Rattle.wire.specs.Bytes.{paper_bytes}
use Rattle.stages.specs.declared.Stage.{Stage}
use Rattle.stages.specs.declared.Stage.TheVariants.{Open, Sealed, Decided}
use Rattle.stages.specs.Stages.{verdict_at}
use Rattle.case.specs.State.{State, opened}
use Rattle.case.specs.Calls.{run_in, body_at, paper_in}
use Rattle.case.proofs.Reload.{reloads}
use Rattle.referee.specs.Papers.{judge_paper}
use Rattle.referee.specs.Ruling.{told, rule_by, ruling}
use Rattle.referee.specs.Runs.{read_run}
use Rattle.referee.proofs.Accepted.{order_accepted, lines_accepted, orphan_accepted}
use Rattle.checker.proofs.Good.{Stands, Grounds, Good}

module _ (S : Setting) (s : State) (good : Good S s) where
  few : length s.records ≤ most_records
  few = (lawful_all s.processors s.records good.lawful).few

  -- its run is read as its records
  run_read : sized s.records ≡ true → (places : ℕ) → most_records ≤ places → read_run S.model_mark S.clock_mark places (run_in S.model_mark S.clock_mark s) ≡ record { records = s.records; fault = None }
  run_read sz places big =
      let back = reloads S.model_mark S.clock_mark (opened 1) s good.opens good.lawful sz in
      rw (back.records, back.answer, le-leb (length s.records) places (omega (arith, few, big))) refl

  -- its paper is judged by what it rests on
  paper_judged : (places : ℕ) → most_lines ≤ places → (paper : List ℕ) → paper_in S.model_mark S.clock_mark s ≡ Some paper → result_ok (judge_paper S s.records places paper).answer ≡ verdict_at s.stage
  paper_judged places big paper is = at s.stage good.stands good.grounds is
    where
      R : Run
      R = run_of S s.records

      some_same : {a b : List ℕ} → Some a ≡ Some b → a ≡ b
      some_same e = cc

      -- the bytes of the paper, where there are any
      by : (v : Verdict) (bs : List ℕ) → Some bs ≡ Some paper → (judge_paper S s.records places bs).answer ≡ Ok v → result_ok (judge_paper S s.records places paper).answer ≡ Some v
      by v bs is accepted = subst (λ x. result_ok (judge_paper S s.records places x).answer ≡ Some v) (some_same is) (ap result_ok accepted)

      at : (g : Stage) → Stands R g s.standing s.total → Grounds s.records s.lines g →
          option_map (paper_bytes (verdict_number (verdict_at g)) S.model_mark S.clock_mark (length s.records)) (body_at (verdict_at g) s.lines s.standing.placed) ≡ Some paper →
          result_ok (judge_paper S s.records places paper).answer ≡ verdict_at g
      at Open stands rests is = absurd (cc is)
      at Sealed stands rests is = absurd (cc is)
      at (Decided Order) stands rests is = by Order _ is (order_accepted S s.records places s.standing.placed stands few)
      at (Decided Opposed) stands rests is = by Opposed _ is (lines_accepted S s.records places s.lines good.reasons good.pairs rests (omega (arith, big, few_lines_64 (length s.records) s.lines few good.pairs)))
      at (Decided (Orphan l)) stands rests is = by (Orphan l) _ is (orphan_accepted S s.records places l rests)
      at (Decided Exhausted) stands rests is = absurd (cc is)

  -- the fault of a paper has no verdict
  told_ok : (a : Result Verdict PaperFault) → result_ok (told a) ≡ result_ok a
  told_ok (Ok v) = refl
  told_ok (Err f) = refl

  pub good_accepted : sized s.records ≡ true → (paper : List ℕ) → paper_in S.model_mark S.clock_mark s ≡ Some paper → (record_places line_places : ℕ) → most_records ≤ record_places → most_lines ≤ line_places →
      let r = ruling S record_places line_places (run_in S.model_mark S.clock_mark s) paper in (r.records ≡ s.records) × (result_ok r.answer ≡ verdict_at s.stage)
  good_accepted sz paper is record_places line_places records lines =
      let read = ap (λ r. rule_by r.fault S r.records line_places paper) (run_read sz record_places records) in
      (ap (λ r. r.records) read, ap (λ r. result_ok r.answer) read ∙ told_ok (judge_paper S s.records line_places paper).answer ∙ paper_judged line_places lines paper is)

-- What the referee accepts is true of the run that it read, and what its lists hold. Assumes nothing.
use Rattle.std.proofs.Common.{◌≡◌, ℕ, Bool, true, false, leb, List, [], ◌++◌, ◌≤◌, length, Some, None, Ok, Err, Option, Result, refl, sym, ap, ◌∙◌, subst}
use Rattle.std.specs.Result.{result_err}
use Rattle.memory.specs.declared.records.Record.{Record}
use Rattle.memory.specs.declared.verdicts.Verdict.{Verdict}
use Rattle.memory.specs.Admission.{admits}
use Rattle.memory.specs.Lawful.{Lawful}
use Rattle.memory.specs.Limits.{most_records}
use Rattle.memory.specs.Runs.{Setting, run_of}
use Rattle.memory.proofs.Admitted.{admits_front, admits_more}
use Rattle.memory.proofs.Lawful.{lawful_all}
use Rattle.wire.specs.declared.faults.PaperFault.{PaperFault}
use Rattle.wire.specs.declared.faults.RunFault.{RunFault}
use Rattle.inference.proofs.Sound.{lines_hold}
use Rattle.case.specs.State.{State, opened}
use Rattle.case.specs.Loading.{loading}
use Rattle.case.proofs.More.{loading_keep}
use Rattle.lists.specs.declared.lent.LentList.{LentList}
use Rattle.lists.specs.Lists.{entries, rest}
use Rattle.referee.specs.Papers.{judge_paper}
use Rattle.referee.specs.Ruling.{Ruling, told, rule_by, ruling}
use Rattle.referee.specs.Runs.{read_within, read_run}
use Rattle.referee.specs.Taken.{IsRead}
use Rattle.referee.specs.Truth.{TrueOf, AllHold}
use Rattle.referee.proofs.Sound.{paper_good}

-- what loading admits is lawful
lawful_loading : (model clock : ℕ) (bs : List ℕ) → let s = (loading model clock (opened 1) bs).state in admits s.processors [] s.records ≡ true
lawful_loading model clock bs =
    let lawful : State → Type 0 = λ s. admits s.processors [] s.records ≡ true in
    loading_keep lawful lawful (λ p ok. refl) (λ s e r is h. admits_more s.processors s.records e r h is) (λ s h. h) (λ s h. h) model clock (opened 1) refl bs

-- the records that are read are lawful, up to the end, the fault or the last place
abbrev Admitted : List Record → Type 0
Admitted rs = (p : ℕ) × (admits p [] rs ≡ true)

read_lawful : (model clock places : ℕ) (bs : List ℕ) → Admitted (read_run model clock places bs).records
read_lawful model clock places bs = let o = loading model clock (opened 1) bs in by (leb (length o.state.records) places) o.state (result_err o.answer) (lawful_loading model clock bs)
  where
    by : (b : Bool) (s : State) (f : Option RunFault) → admits s.processors [] s.records ≡ true → Admitted (read_within b places s.records f).records
    by true s f h = (s.processors, h)
    by false s f h = (s.processors, admits_front s.processors [] s.records places h)

pub entries_few : (model clock : ℕ) {before after : LentList Record} (bs : List ℕ) {f : Option RunFault} → entries before ≡ [] → IsRead model clock before after bs f → length (entries after) ≤ most_records
entries_few model clock {before} {after} bs none r =
    let places : ℕ = length (rest before) in
    let l = read_lawful model clock places bs in
    let all : entries after ≡ (read_run model clock places bs).records = r.records.entries ∙ ap (λ l. l ++ (read_run model clock places bs).records) none in
    subst (λ rs. length rs ≤ most_records) (sym all) (lawful_all l.0 _ l.1).few

-- what holds of a ruling on a paper
pub record Sound (S : Setting) (paper : List ℕ) (r : Ruling) : Type 0 where
  pub lawful : (p : ℕ) × Lawful p r.records
  pub truth : TrueOf S r.records paper r.answer
  pub founded : AllHold (run_of S r.records) r.lines

-- it holds whatever bytes and places the referee is handed
pub ruling_sound : (S : Setting) (record_places line_places : ℕ) (run paper : List ℕ) → Sound S paper (ruling S record_places line_places run paper)
ruling_sound S record_places line_places run paper = let r = read_run S.model_mark S.clock_mark record_places run in by r.fault r.records (read_lawful S.model_mark S.clock_mark record_places run)
  where
    heard : (rs : List Record) (a : Result Verdict PaperFault) → TrueOf S rs paper a → TrueOf S rs paper (told a)
    heard rs (Ok v) h = h
    heard rs (Err f) h = tt

    by : (f : Option RunFault) (rs : List Record) → Admitted rs → Sound S paper (rule_by f S rs line_places paper)
    by (Some f) rs (p, adm) = record { lawful = (p, lawful_all p rs adm); truth = tt; founded = λ order legal a b none. absurd (cc none) }
    by None rs (p, adm) =
        let good = paper_good S p rs adm paper line_places in
        record { lawful = (p, lawful_all p rs adm); truth = heard rs _ good.1; founded = lines_hold S p rs adm (judge_paper S rs line_places paper).lines good.0 }

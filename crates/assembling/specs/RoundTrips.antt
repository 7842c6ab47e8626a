-- What texts and runs are to each other, and why a text is refused. Assumes nothing.
use Rattle.std.specs.Prelude.{◌≡◌, ℕ, ◌+◌, true, false, List, ◌∷◌, ◌++◌, length, map, Ok, Err, ◌⊎◌}
use Rattle.std.specs.List.{All}
use Rattle.memory.specs.declared.records.Record.{Record}
use Rattle.memory.specs.declared.refusals.Layer.TheVariants as layer
use Rattle.memory.specs.declared.refusals.Refusal.TheVariants as refuse
use Rattle.memory.specs.Admission.{opens, logged, judgement}
use Rattle.memory.specs.Lawful.{Lawful, Breaks}
use Rattle.wire.specs.Bytes.{run_bytes}
use Rattle.case.specs.State.{State, holding}
use Rattle.case.specs.Loading.{Reloads}
use Rattle.judging.specs.Marked.{marked}
use Rattle.logs.specs.declared.reading.Access.{Access}
use Rattle.logs.specs.Heads.{model_mark, clock_mark}
use Rattle.logs.specs.Printing.{printed}
use Rattle.logs.specs.Reading.{Said, log_of, lines_of, IsFirstBad}
use Rattle.assembling.specs.declared.troubles.BadRecord.{BadRecord}
use Rattle.assembling.specs.declared.troubles.BadLog.TheVariants.{Line, Record as BadRecordOf}
use Rattle.assembling.specs.declared.troubles.Unassembled.{Unassembled}
use Rattle.assembling.specs.declared.troubles.Unassembled.TheVariants.{Log, OutOfMemory}
use Rattle.assembling.specs.Assembly.{strange, assembled}
use Rattle.assembling.specs.Disassembly.{disassembled}

-- a run is what a text says
pub record IsRunOf (text run : List ℕ) : Type 0 where
  -- the text reads as a log
  pub said : Said
  pub reads : log_of text ≡ Ok said
  -- whose accesses, as they were logged and in their order, are records that keep the rules of a run
  pub records : List Record
  pub same : map logged records ≡ map (λ a. a.entry) said.accesses
  pub lawful : Lawful said.head.processors records
  -- the run is the bytes of just these, and marks the model and the clock of the log
  pub bytes : run ≡ run_bytes said.head.processors (model_mark said.head.model) (clock_mark said.head.clock) records
  pub model : (marked run).model_mark ≡ model_mark said.head.model
  pub clock : (marked run).clock_mark ≡ clock_mark said.head.clock
  -- it loads as a case of just these, whatever the case was before
  pub loads : (before : State) → Reloads (marked run).model_mark (marked run).clock_mark before (holding said.head.processors records) run
  -- it is disassembled to the log as it is printed, and that is assembled to the same run
  pub back : disassembled run ≡ Ok (printed said.head records)
  pub again : assembled (printed said.head records) ≡ Ok run

-- the first access that is refused: those before it are records that keep the rules of a run, and would break them with it
pub record FirstRefused (text : List ℕ) (b : BadRecord) : Type 0 where
  pub said : Said
  pub reads : log_of text ≡ Ok said
  pub before : List Access
  pub access : Access
  pub after : List Access
  pub accesses : said.accesses ≡ before ++ access ∷ after
  pub records : List Record
  pub same : map logged records ≡ map (λ a. a.entry) before
  pub lawful : Lawful said.head.processors records
  pub breaks : Breaks said.head.processors records access.entry
  -- it has the refusal with which an open case of these records refuses it, and its own line
  pub refusal : judgement said.head.processors records access.entry ≡ Err b.fault.refusal
  pub layer : b.fault.layer ≡ layer.Content
  pub place : b.fault.place ≡ length records + 1
  pub line : b.line ≡ access.line

-- at a place, where the first line has the place n, stands the first line that by itself says a number of processors that no run may have
pub record StrangeAt (lines : List (List ℕ)) (n at : ℕ) : Type 0 where
  pub before : List (List ℕ)
  pub line : List ℕ
  pub after : List (List ℕ)
  pub parts : lines ≡ before ++ line ∷ after
  pub place : at ≡ n + length before
  pub is : strange (log_of line) ≡ true
  pub first : All (λ l. strange (log_of l) ≡ false) before

-- the log is of such a number, and this is its first line that says one
pub record FirstStrange (text : List ℕ) (b : BadRecord) : Type 0 where
  pub said : Said
  pub reads : log_of text ≡ Ok said
  pub number : opens said.head.processors ≡ false
  pub line : StrangeAt (lines_of text) 1 b.line
  pub refusal : b.fault.refusal ≡ refuse.Stranger
  pub layer : b.fault.layer ≡ layer.Content
  pub place : b.fault.place ≡ 1

-- a text is refused for its first bad line; or, where it has none, for its number of processors; or else for the first access that is refused
abbrev pub Explains : List ℕ → Unassembled → Type 0
Explains text (Log (Line b)) = (log_of text ≡ Err b) × IsFirstBad (lines_of text) b
Explains text (Log (BadRecordOf b)) = FirstStrange text b ⊎ FirstRefused text b
Explains text OutOfMemory = Unit {0}

-- The worked examples. Assumes nothing.
use Rattle.std.specs.Prelude.{◌≡◌, ℕ, ◌-◌, true, false, List, [], ◌∷◌, ◌++◌, take, drop, replicate, Some, Ok, Err}
use Rattle.memory.specs.declared.lines.Line.{Line}
use Rattle.memory.specs.declared.lines.Rule.TheVariants.{Clock, Model, ReadsFrom, InitialRead, Coherence, Transitive}
use Rattle.memory.specs.declared.records.Entry.{Entry}
use Rattle.memory.specs.declared.refusals.Refusal.TheVariants.{Hollow}
use Rattle.memory.specs.declared.verdicts.Verdict.TheVariants.{Order, Opposed, Exhausted}
use Rattle.memory.specs.Clocks.{below, never}
use Rattle.memory.specs.Models.{sc, godson}
use Rattle.memory.specs.Runs.{Setting, setting}
use Rattle.inference.specs.Next.{line_of}
use Rattle.search.specs.Steps.{F}
use Rattle.wire.specs.declared.faults.PaperFault.TheVariants.{Conclusion}
use Rattle.referee.specs.declared.faults.RefereeFault.TheVariants.{Paper}
use Rattle.worked.specs.Worked.{Example, Works, IsShort, Writes, Rules}

abbrev pub sc_global : Setting
sc_global = setting sc below 1 1

abbrev pub sc_none : Setting
sc_none = setting sc never 1 3

abbrev pub godson_global : Setting
godson_global = setting godson below 3 1

-- a load (kind 1) or a store (kind 2): processor, kind, address and value, then the enter and the commit reading
abbrev pub logged : ℕ → ℕ → ℕ → ℕ → ℕ → ℕ → Entry
logged p k a v enter commit = record { processor = p; kind = k; address = a; value = v; enter = enter; commit = commit }

-- One processor stores a message and then a flag; the other loads the flag, set, and then the message, not yet there.
abbrev pub message_entries : List Entry
message_entries = logged 0 2 0x10 1 10 90 ∷ logged 0 2 0x20 1 10 90 ∷ logged 1 1 0x20 1 10 90 ∷ logged 1 1 0x10 0 10 90 ∷ []

abbrev pub message_inferred : Example
message_inferred = record { processors = 2; entries = message_entries; inferred = true }

abbrev pub message_searched : Example
message_searched = record { processors = 2; entries = message_entries; inferred = false }

-- A store, a store over it, and a load of the first, each done before the next begins.
abbrev pub stale : Example
stale = record { processors = 3; entries = logged 0 2 0x10 1 0 10 ∷ logged 1 2 0x10 2 20 30 ∷ logged 2 1 0x10 1 40 50 ∷ []; inferred = true }

-- Two stores, the first done when the counter reads 10, the second begun at this reading.
abbrev pub second_begun_at : ℕ → Example
second_begun_at enter = record { processors = 2; entries = logged 0 2 0x10 1 0 10 ∷ logged 1 2 0x20 1 enter 30 ∷ []; inferred = true }

abbrev pub message_lines : List Line
message_lines = line_of Model 1 2 0 ∷ line_of Model 3 4 0 ∷ line_of ReadsFrom 2 3 0 ∷ line_of InitialRead 4 1 0 ∷ line_of Transitive 1 3 2 ∷ line_of Transitive 1 4 3 ∷ []

abbrev pub godson_lines : List Line
godson_lines = line_of Model 1 2 0 ∷ line_of ReadsFrom 2 3 0 ∷ line_of InitialRead 4 1 0 ∷ line_of Transitive 1 3 2 ∷ line_of Transitive 4 2 1 ∷ line_of Transitive 4 3 1 ∷ []

-- a number below 256 in so many bytes
abbrev pub byte_in : ℕ → ℕ → List ℕ
byte_in width n = replicate (width - 1) 0 ++ n ∷ []

-- a record's field in the message run: processor, kind, address and value, then 10 and 90
abbrev pub message_field : ℕ → ℕ → ℕ → ℕ → List ℕ
message_field p k a v = 0x02 ∷ 0x00 ∷ 30 ∷ p ∷ k ∷ (byte_in 4 a ++ (byte_in 8 v ++ (byte_in 8 10 ++ byte_in 8 90)))

-- the bytes of the message run, under a model with this mark and Global: its head, its records and its end
abbrev pub message_run : ℕ → List ℕ
message_run model =
    (0x01 ∷ 0x00 ∷ 0x03 ∷ 0x02 ∷ model ∷ 0x01 ∷ [])
    ++ (message_field 0 2 0x10 1 ++ (message_field 0 2 0x20 1 ++ (message_field 1 1 0x20 1 ++ (message_field 1 1 0x10 0 ++ 0x03 ∷ 0x00 ∷ 0x00 ∷ []))))

-- under SC, 64 bytes: the slip, with verdict 2 and no steps, then the paper with its head, the six lines and its end
abbrev pub message_answer : List ℕ
message_answer =
    0x1d ∷ 0x00 ∷ 0x09 ∷ 0x02 ∷ 0x00 ∷ 0x00 ∷ 0x00 ∷ 0x00 ∷ 0x00 ∷ 0x00 ∷ 0x00 ∷ 0x00 ∷
    0x10 ∷ 0x00 ∷ 0x04 ∷ 0x02 ∷ 0x01 ∷ 0x01 ∷ 0x04 ∷
    0x11 ∷ 0x00 ∷ 0x04 ∷ 0x02 ∷ 0x01 ∷ 0x02 ∷ 0x00 ∷
    0x11 ∷ 0x00 ∷ 0x04 ∷ 0x02 ∷ 0x03 ∷ 0x04 ∷ 0x00 ∷
    0x11 ∷ 0x00 ∷ 0x04 ∷ 0x03 ∷ 0x02 ∷ 0x03 ∷ 0x00 ∷
    0x11 ∷ 0x00 ∷ 0x04 ∷ 0x04 ∷ 0x04 ∷ 0x01 ∷ 0x00 ∷
    0x11 ∷ 0x00 ∷ 0x04 ∷ 0x07 ∷ 0x01 ∷ 0x03 ∷ 0x02 ∷
    0x11 ∷ 0x00 ∷ 0x04 ∷ 0x07 ∷ 0x01 ∷ 0x04 ∷ 0x03 ∷
    0x1f ∷ 0x00 ∷ 0x00 ∷ []

-- under Godson, 29 bytes: the slip, with verdict 1 and 4 steps, then the paper with its head, the order and its end
abbrev pub godson_answer : List ℕ
godson_answer =
    0x1d ∷ 0x00 ∷ 0x09 ∷ 0x01 ∷ 0x00 ∷ 0x00 ∷ 0x00 ∷ 0x00 ∷ 0x00 ∷ 0x00 ∷ 0x00 ∷ 0x04 ∷
    0x10 ∷ 0x00 ∷ 0x04 ∷ 0x01 ∷ 0x03 ∷ 0x01 ∷ 0x04 ∷
    0x12 ∷ 0x00 ∷ 0x04 ∷ 0x04 ∷ 0x01 ∷ 0x02 ∷ 0x03 ∷
    0x1f ∷ 0x00 ∷ 0x00 ∷ []

-- the paper in the answer under SC, and the same without its last line, whose conclusion then fails
abbrev pub message_paper : List ℕ
message_paper = drop 12 message_answer

abbrev pub hollow_paper : List ℕ
hollow_paper = take 42 message_paper ++ 0x1f ∷ 0x00 ∷ 0x00 ∷ []

-- a row's verdict, lines, placed records and steps are those of the case
pub record WorkedExamples : Type 0 where
  -- the message run under SC: its lines come to be opposed, and the program writes 64 bytes
  pub message : Works sc_global message_inferred (Some Opposed) message_lines [] 0
  pub message_written : Writes (message_run 1) message_answer
  -- its paper has 52 bytes, and 51 are too few
  pub message_short : IsShort sc_global message_inferred 51 5
  -- the referee accepts the paper, and not without the line in which it ends
  pub message_accepted : Rules (message_run 1) message_paper (Ok Opposed)
  pub message_hollow : Rules (message_run 1) hollow_paper (Err (Paper (Conclusion Hollow 42)))
  -- searched without inference, it is exhausted after 7 steps
  pub message_exhausted : Works sc_global message_searched (Some Exhausted) [] [] 7
  -- under Godson it has a legal order: with inference in 4 steps, and the program writes 29 bytes; without in 10
  pub message_godson : Works godson_global message_inferred (Some Order) godson_lines (4 ∷ 1 ∷ 2 ∷ 3 ∷ []) 4
  pub message_godson_written : Writes (message_run 3) godson_answer
  pub message_godson_searched : Works godson_global message_searched (Some Order) [] (4 ∷ 1 ∷ 2 ∷ 3 ∷ []) 10
  -- the stale run: with the clock Global its lines come to be opposed, and with None it has a legal order
  pub stale_global : Works sc_global stale (Some Opposed) (line_of Clock 1 2 0 ∷ line_of Clock 1 3 0 ∷ line_of Clock 2 3 0 ∷ line_of Coherence 2 1 3 ∷ []) [] 0
  pub stale_none : Works sc_none stale (Some Order) (line_of ReadsFrom 1 3 0 ∷ []) (1 ∷ 3 ∷ 2 ∷ []) 5
  -- twice this many steps are enough for four records
  pub four_records : F 4 ≡ 65
  -- a commit of 10 is not surely earlier than an enter of 10, and is than one of 11
  pub touching : Works sc_global (second_begun_at 10) (Some Order) [] (1 ∷ 2 ∷ []) 2
  pub apart : Works sc_global (second_begun_at 11) (Some Order) (line_of Clock 1 2 0 ∷ []) (1 ∷ 2 ∷ []) 2

-- What a text says: its lines read one after the other. Assumes nothing.
use Rattle.std.specs.Prelude.{◌≡◌, ℕ, ◌+◌, ◌-◌, ◌≤◌, Bool, IsOk, length, take, cond, List, [], ◌∷◌, ◌++◌, Some, None, Ok, Err, Result, ◌==◌, nat_lt, max, unwrap_or, is_some}
use Rattle.std.specs.List.{slice_split}
use Rattle.logs.specs.declared.heads.Head.{Head}
use Rattle.logs.specs.declared.heads.NamedModel.TheVariants.{Sc}
use Rattle.logs.specs.declared.heads.NamedClock.TheVariants.{Global}
use Rattle.logs.specs.declared.headings.Heading.{Heading}
use Rattle.logs.specs.declared.reading.Access.{Access}
use Rattle.logs.specs.declared.statements.Statement.{Statement}
use Rattle.logs.specs.declared.statements.Statement.TheVariants as statement
use Rattle.logs.specs.declared.troubles.BadLine.{BadLine}
use Rattle.logs.specs.declared.troubles.Expected.{Expected}
use Rattle.logs.specs.declared.troubles.Expected.TheVariants as expected
use Rattle.logs.specs.declared.troubles.Unread.{Unread}
use Rattle.logs.specs.declared.troubles.Unread.TheVariants as unread
use Rattle.logs.specs.Parts.{and_then}
use Rattle.logs.specs.Statements.{statement_of}

-- before the first line nothing is said, and no processor is named
abbrev pub unsaid : Heading
unsaid = record { model = None; clock = None; processors = None; named = 0 }

-- a head line stands before the first access, which names a processor, and at most once
abbrev pub allowed : Heading → Bool → Expected → Heading → Result Heading Expected
allowed h said twice next = cond (nat_lt 0 h.named) (Err expected.HeadBefore) (cond said (Err twice) (Ok next))

-- the heading with what one more line says; an access of processor p names p + 1 processors
unfoldable pub heading_with : Heading → Statement → Result Heading Expected
heading_with h statement.Nothing = Ok h
heading_with h (statement.Model m) = allowed h (is_some h.model) expected.OneModel (record h { model = Some m })
heading_with h (statement.Clock c) = allowed h (is_some h.clock) expected.OneClock (record h { clock = Some c })
heading_with h (statement.Processors n) = allowed h (is_some h.processors) expected.OneProcessors (record h { processors = Some n })
heading_with h (statement.Access e) = Ok (record h { named = max h.named (e.processor + 1) })

-- where nothing is said: SC, a global clock, and as many processors as are named, at least 1
abbrev pub head_of : Heading → Head
head_of h = record { model = unwrap_or h.model Sc; clock = unwrap_or h.clock Global; processors = unwrap_or h.processors (max 1 h.named) }

-- what is expected in a line with a number
abbrev pub in_line : {A : Type 0} → ℕ → Result A Expected → Result A BadLine
in_line n (Ok x) = Ok x
in_line n (Err e) = Err (record { line = n; expected = e })

-- a line with a number, read behind a heading: the heading with it, and what it says
unfoldable pub line_read : ℕ → Heading → List ℕ → Result (Heading × Statement) BadLine
line_read n h line = in_line n (and_then (statement_of line) (λ s. and_then (heading_with h s) (λ next. Ok (next, s))))

-- the access of a line, if it says one
abbrev pub access_at : ℕ → Statement → List Access
access_at n statement.Nothing = []
access_at n (statement.Model m) = []
access_at n (statement.Clock c) = []
access_at n (statement.Processors k) = []
access_at n (statement.Access e) = record { line = n; entry = e } ∷ []

-- a head and accesses, each with its line
pub record Said : Type 0 where
  pub head : Head
  pub accesses : List Access

-- lines from the n-th on, read behind a heading and the accesses before them
unfoldable pub lines_read : ℕ → Heading → List Access → List (List ℕ) → Result Said BadLine
lines_read n h before [] = Ok (record { head = head_of h; accesses = before })
lines_read n h before (line ∷ lines) = and_then (line_read n h line) (λ x. lines_read (n + 1) x.0 (before ++ access_at n x.1) lines)

-- what lines say, the first of which is line 1
unfoldable pub said_by : List (List ℕ) → Result Said BadLine
said_by lines = lines_read 1 unsaid [] lines

-- the lines of a text, which newlines part
abbrev pub lines_of : List ℕ → List (List ℕ)
lines_of text = slice_split (λ b. b == 10) text

-- what a text says, or its first bad line
unfoldable pub log_of : List ℕ → Result Said BadLine
log_of text = said_by (lines_of text)

-- the first bad line of these: those before it say a log, and nothing behind it mends it
pub record IsFirstBad (lines : List (List ℕ)) (bad : BadLine) : Type 0 where
  pub some : 1 ≤ bad.line
  pub within : bad.line ≤ length lines
  pub before : IsOk (said_by (take (bad.line - 1) lines))
  pub behind : (more : List (List ℕ)) → said_by (take bad.line lines ++ more) ≡ Err bad

-- why there is no log of a text: its first bad line, or memory ran out
abbrev pub IsRefusal : List ℕ → Unread → Type 0
IsRefusal text (unread.Line bad) = (log_of text ≡ Err bad) × IsFirstBad (lines_of text) bad
IsRefusal text unread.OutOfMemory = Unit {0}

-- What words ask for. Assumes nothing.
use Rattle.std.specs.Prelude.{◌≡◌, ℕ, ◌<◌, ◌≢◌, true, false, List, [], ◌∷◌, length, codes, slice_index}
use Rattle.intake.specs.Arguments.{texts, NamesSteps}
use Rattle.memory.specs.Limits.{program_steps}
use Rattle.tables.specs.declared.forms.Form.{Form}
use Rattle.tables.specs.declared.forms.Form.TheVariants as form
use Rattle.tables.specs.declared.requests.Options.{Options}
use Rattle.tables.specs.declared.requests.Runs.{Runs}
use Rattle.tables.specs.declared.requests.TableRequest.{TableRequest}
use Rattle.tables.specs.declared.requests.TableRequest.TheVariants as request
use Rattle.tables.specs.declared.requests.Flag.{Flag}
use Rattle.tables.specs.declared.requests.Flag.TheVariants as flag

-- the word begins with -
abbrev pub begins_with_dash : List ℕ → Type 0
begins_with_dash word = slice_index word 0 ≡ 45

abbrev pub IsFlag : Flag → List ℕ → Type 0
IsFlag flag.Steps word = word ≡ codes "--steps"
IsFlag flag.Csv word = word ≡ codes "--csv"
IsFlag flag.Latex word = word ≡ codes "--latex"
IsFlag flag.Quiet word = word ≡ codes "--quiet"
IsFlag flag.End word = word ≡ codes "--"
IsFlag flag.Unknown word =
    begins_with_dash word × (word ≢ codes "--steps") × (word ≢ codes "--csv") × (word ≢ codes "--latex") × (word ≢ codes "--quiet") × (word ≢ codes "--")
IsFlag flag.Name word = begins_with_dash word → ⊥

-- the options at first
abbrev pub at_first : Options
at_first = record { steps = program_steps; form = form.Aligned; quiet = false }

abbrev pub with_steps : ℕ → Options → Options
with_steps n o = record { steps = n; form = o.form; quiet = o.quiet }

abbrev pub with_form : Form → Options → Options
with_form f o = record { steps = o.steps; form = f; quiet = o.quiet }

abbrev pub quietly : Options → Options
quietly o = record { steps = o.steps; form = o.form; quiet = true }

-- these options, and names that are these words, of which there are some
abbrev pub AreNamed : Options → List (List ℕ) → Runs → Type 0
AreNamed o words r = (r.options ≡ o) × (texts r.names.now ≡ words) × (0 < length words)

-- behind the options so far, the words ask for it: each option sets what it names; the names begin behind --, or with a word that does not begin with -
pub data AsksRuns : Options → List (List ℕ) → Runs → Type 0 where
  csv : {o : Options} {word : List ℕ} {words : List (List ℕ)} {r : Runs} → word ≡ codes "--csv" → AsksRuns (with_form form.Csv o) words r → AsksRuns o (word ∷ words) r
  latex : {o : Options} {word : List ℕ} {words : List (List ℕ)} {r : Runs} → word ≡ codes "--latex" → AsksRuns (with_form form.Latex o) words r → AsksRuns o (word ∷ words) r
  quiet : {o : Options} {word : List ℕ} {words : List (List ℕ)} {r : Runs} → word ≡ codes "--quiet" → AsksRuns (quietly o) words r → AsksRuns o (word ∷ words) r
  steps : {o : Options} {word number : List ℕ} {words : List (List ℕ)} {r : Runs} → word ≡ codes "--steps" → (n : ℕ) → NamesSteps n number → AsksRuns (with_steps n o) words r → AsksRuns o (word ∷ number ∷ words) r
  dashes : {o : Options} {word : List ℕ} {words : List (List ℕ)} {r : Runs} → word ≡ codes "--" → AreNamed o words r → AsksRuns o (word ∷ words) r
  names : {o : Options} {word : List ℕ} {words : List (List ℕ)} {r : Runs} → (begins_with_dash word → ⊥) → AreNamed o (word ∷ words) r → AsksRuns o (word ∷ words) r

abbrev pub AsksTable : TableRequest → List (List ℕ) → Type 0
AsksTable (request.Table r) words = AsksRuns at_first words r
AsksTable request.Help words = words ≡ codes "--help" ∷ []

-- What inference reasons from, as a run and a list of lines, and the list that it makes.
use Rattle.std.specs.Prelude.{◌≡◌, ℕ, ◌<◌, ◌≤◌, Bool, List, [], ◌∷◌, ◌++◌, Some, None, Ok, Err, vec_items, Option, Result}
use Rattle.memory.specs.declared.models.Model as model
use Rattle.memory.specs.declared.clocks.Clock as clock
use Rattle.memory.specs.declared.lines.Line.{Line}
use Rattle.memory.specs.declared.records.Record.{Record}
use Rattle.memory.specs.declared.refusals.Refusal.{Refusal}
use Rattle.memory.specs.declared.refusals.Refusal.TheVariants.{Full}
use Rattle.memory.specs.Limits.{most_records}
use Rattle.memory.specs.Runs.{Setting, Run, run_of}
use Rattle.memory.specs.Settings.{setting_lent}
use Rattle.inference.specs.declared.lines.Lines.{Lines}
use Rattle.inference.specs.declared.lines.Listed.{Listed}
use Rattle.inference.specs.declared.premises.Premises.{Premises}
use Rattle.inference.specs.declared.runs.Run as records
use Rattle.inference.specs.Listing.{Listing, list_lines}
use Rattle.inference.specs.Worth.{opposes}

module _ {M C : Type 0} {g : model.Ghosts M} {h : clock.Ghosts C} where
  -- the model and the clock, by what models and clocks of their kinds say, and by their marks
  abbrev pub setting_is : records.Run M C g h → Setting
  setting_is r = setting_lent g h r.setting

  -- the run that the records make under them
  abbrev pub run_is : records.Run M C g h → Run
  run_is r = run_of (setting_is r) r.records.now

  abbrev pub records_in : Premises M C g h → List Record
  records_in p = p.run.records.now

  abbrev pub lines_in : Premises M C g h → List Line
  lines_in p = p.lines.now

  abbrev pub setting_in : Premises M C g h → Setting
  setting_in p = setting_is p.run

  abbrev pub run_in : Premises M C g h → Run
  run_in p = run_is p.run

abbrev pub lines_of : Lines → List Line
lines_of l = vec_items l.items

-- the next line was listed, with the answer whether it is opposed to one before it; or there is none, and the list is as before
abbrev pub Took : Option Line → List Line → List Line → Option Bool → Type 0
Took None before after r = (r ≡ None) × (after ≡ before)
Took (Some l) before after r = (r ≡ Some (opposes before l)) × (after ≡ before ++ l ∷ [])

-- what inferring answered, with the list after
abbrev pub listing : Listed → List Line → Listing
listing r after = record { count = r.count; lines = after; opposed = r.opposed }

-- inferring up to k lines answers and leaves what the definition says; it is refused where there are more records than a run may have, and the list is as before
abbrev pub Infers : Run → ℕ → List Line → List Line → Result Listed Refusal → Type 0
Infers R k before after (Ok r) = (R.size ≤ most_records) × (listing r after ≡ list_lines R k before)
Infers R k before after (Err e) = (most_records < R.size) × (e ≡ Full) × (after ≡ before)

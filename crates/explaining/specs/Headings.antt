-- The first sentence, and what else is said at the head. Assumes nothing.
use Rattle.std.specs.Prelude.{ℕ, List, ◌++◌, codes, cond, nat_le, Some, None, Option}
use Rattle.std.specs.Fmt.{decimal}
use Rattle.memory.specs.declared.refusals.Fault.{Fault}
use Rattle.memory.specs.declared.verdicts.Verdict.{Verdict}
use Rattle.memory.specs.declared.verdicts.Verdict.TheVariants.{Order, Opposed, Orphan, Exhausted}
use Rattle.memory.specs.Limits.{input_limit}
use Rattle.memory.specs.Numbers.{verdict_number, refusal_number, layer_number}
use Rattle.memory.specs.Words.{refusal_words, layer_words}
use Rattle.telling.specs.Words.{model_name, clock_name, verdict_name, refusal_name}

-- under which model and clock, by their marks
abbrev pub under_words : ℕ → ℕ → List ℕ
under_words model clock = codes "under " ++ (model_name model ++ (codes " with the clock " ++ clock_name clock))

-- what came of a run under a model and a clock after so many steps
abbrev pub heading_words : ℕ → ℕ → ℕ → Option Verdict → List ℕ
heading_words m c steps (Some Order) = codes "A legal order: " ++ (under_words m c ++ codes ", the records of this run have one.")
heading_words m c steps (Some Opposed) = codes "No legal order: " ++ (under_words m c ++ codes ", two lines of this run oppose each other.")
heading_words m c steps (Some (Orphan l)) = codes "No legal order: " ++ (under_words m c ++ (codes ", record " ++ (decimal l ++ codes " of this run loads what nobody wrote.")))
heading_words m c steps (Some Exhausted) = codes "No legal order: " ++ (under_words m c ++ codes ", the search of this run has gone through everything.")
heading_words m c steps None = codes "Undecided: " ++ (under_words m c ++ (codes ", " ++ (decimal steps ++ codes " steps of search did not decide this run.")))

-- of a refused run
abbrev pub refusal_heading : Fault → List ℕ
refusal_heading f = codes "Refused: at byte " ++ (decimal f.place ++ codes " these bytes are not a run that may be read.")

-- verdict and steps
abbrev pub verdict_lines : Option Verdict → ℕ → List ℕ
verdict_lines v steps = codes "Verdict: " ++ (decimal (verdict_number v) ++ (codes ", " ++ (verdict_name (verdict_number v) ++ (codes "\n  steps: " ++ decimal steps))))

-- number and word of the refusal, layer and place, and what they mean
abbrev pub refusal_lines : Fault → List ℕ
refusal_lines f =
    codes "  refusal: " ++ (decimal (refusal_number f.refusal) ++ (codes ", " ++ (refusal_name f.refusal ++ (codes "\n  layer: " ++ (decimal (layer_number f.layer) ++ (codes ", " ++ (layer_words f.layer ++ (codes "\n  place: byte " ++ (decimal f.place ++ (codes "\n  " ++ refusal_words f.refusal))))))))))

-- how many bytes count of those that came
abbrev pub bytes_words : ℕ → List ℕ
bytes_words given = cond (nat_le given input_limit) (decimal given) (decimal input_limit ++ codes ", which are the first of more: the rest does not count")

-- under what it was read, and how much
abbrev pub reading_lines : ℕ → ℕ → ℕ → List ℕ
reading_lines m c given =
    codes "  model: " ++ (model_name m ++ (codes " (mark " ++ (decimal m ++ (codes ")\n  clock: " ++ (clock_name c ++ (codes " (mark " ++ (decimal c ++ (codes ")\n  bytes: " ++ bytes_words given))))))))

-- What the words behind a program's name ask for. Assumes nothing.
use Rattle.std.specs.Prelude.{◌≡◌, ℕ, ◌≤◌, ◌⊎◌, List, [], ◌∷◌, map, codes, String, string_bytes}
use Rattle.std.specs.Str.Parse.{IsNumeral, digits_value}
use Rattle.std.specs.declared.alloc.Global.{Global}
use Rattle.memory.specs.Limits.{most_steps, program_steps}
use Rattle.intake.specs.declared.Request.{Request}
use Rattle.intake.specs.declared.Request.TheVariants as request
use Rattle.intake.specs.declared.SearchRequest.{SearchRequest}
use Rattle.intake.specs.declared.SearchRequest.TheVariants as search_request
use Rattle.intake.specs.declared.Errand.{Errand}
use Rattle.intake.specs.declared.Errand.TheVariants as errand

-- the bytes of each word
abbrev pub texts : List (String Global) → List (List ℕ)
texts ws = map string_bytes ws

-- the words that ask for it
abbrev pub request_words : Request → List (List ℕ)
request_words request.Run = []
request_words request.Help = codes "--help" ∷ []

abbrev pub errand_words : Errand → List (List ℕ)
errand_words (errand.Files run paper) = run.now ∷ paper.now ∷ []
errand_words errand.Help = codes "--help" ∷ []

-- the word is a number of steps in decimal digits, one or more, that is not beyond the most
abbrev pub NamesSteps : ℕ → List ℕ → Type 0
NamesSteps n word = IsNumeral 10 word × (digits_value 10 word ≡ n) × (n ≤ most_steps)

-- the words ask for it: no word, for as many steps as the checker searches; --steps and a number of them; or --help
abbrev pub AsksSearch : SearchRequest → List (List ℕ) → Type 0
AsksSearch (search_request.Run steps) words =
    ((words ≡ []) × (steps ≡ program_steps)) ⊎ ((number : List ℕ) × (words ≡ codes "--steps" ∷ number ∷ []) × NamesSteps steps number)
AsksSearch search_request.Help words = words ≡ codes "--help" ∷ []

-- The words of refusals and layers, as they are printed.
use Rattle.std.specs.Prelude.{ℕ, List, codes}
use Rattle.memory.specs.declared.refusals.Refusal.{Refusal}
use Rattle.memory.specs.declared.refusals.Refusal.TheVariants.{Malformed, Foreign, Decided, Sealed, Unsealed, Full, Stranger, Kind, Blank, Range, Backward, Twin, Spent, Bare, Short, Unfounded, Hollow}
use Rattle.memory.specs.declared.refusals.Layer.{Layer}
use Rattle.memory.specs.declared.refusals.Layer.TheVariants.{RunBytes, Content, PaperBytes, Conclusion}

-- what a refusal means, in a sentence
abbrev pub refusal_words : Refusal → List ℕ
refusal_words Malformed = codes "A field has a wrong tag or length, the bytes end too early or go on behind the end, or a paper's verdict is not 1, 2 or 3."
refusal_words Foreign = codes "A mark in the head is not that of the model or the clock in use, or a paper is of another number of records."
refusal_words Decided = codes "The case is decided, and the call would change it."
refusal_words Sealed = codes "The case is sealed: it takes no more records and no second sealing."
refusal_words Unsealed = codes "A search is asked of an open case."
refusal_words Full = codes "The case already has 64 records."
refusal_words Stranger = codes "The processor is not one of the run's, or the number of processors is not 1 to 16."
refusal_words Kind = codes "The kind is not 1 (load), 2 (store) or 3 (fence)."
refusal_words Blank = codes "A store has the value 0, or a fence has an address or a value."
refusal_words Range = codes "The enter or the commit reading is 2^62 or more."
refusal_words Backward = codes "The commit reading is below the enter reading, or the enter reading below the processor's last."
refusal_words Twin = codes "A store has the address and the value of an admitted store."
refusal_words Spent = codes "The steps done and those asked for are more than 2^62 together."
refusal_words Bare = codes "The verdict has no paper."
refusal_words Short = codes "The bytes or the list to be filled are too small."
refusal_words Unfounded = codes "A line of the paper does not follow from the run and the lines before it, or its pair is listed before it."
refusal_words Hollow = codes "The paper's conclusion fails."

-- what a layer judges
abbrev pub layer_words : Layer → List ℕ
layer_words RunBytes = codes "run bytes"
layer_words Content = codes "content of a head or a record, and calls on a case"
layer_words PaperBytes = codes "paper bytes"
layer_words Conclusion = codes "lines and conclusion"

-- Names and marks of models and clocks, and the head of a log as it is printed. Assumes nothing.
use Rattle.std.specs.Prelude.{ℕ, List, ◌++◌, codes}
use Rattle.std.specs.Fmt.{decimal}
use Rattle.logs.specs.declared.heads.Head.{Head}
use Rattle.logs.specs.declared.heads.NamedModel.{NamedModel}
use Rattle.logs.specs.declared.heads.NamedModel.TheVariants.{Sc, Godson}
use Rattle.logs.specs.declared.heads.NamedClock.{NamedClock}
use Rattle.logs.specs.declared.heads.NamedClock.TheVariants.{Global, NoClock}

abbrev pub model_mark : NamedModel → ℕ
model_mark Sc = 1
model_mark Godson = 3

abbrev pub model_word : NamedModel → List ℕ
model_word Sc = codes "SC"
model_word Godson = codes "Godson"

abbrev pub clock_mark : NamedClock → ℕ
clock_mark Global = 1
clock_mark NoClock = 3

abbrev pub clock_word : NamedClock → List ℕ
clock_word Global = codes "global"
clock_word NoClock = codes "none"

-- the three head lines, the last without its end
abbrev pub head_words : Head → List ℕ
head_words h =
    codes "model " ++ (model_word h.model ++ (codes "\nclock " ++ (clock_word h.clock ++ (codes "\nprocessors " ++ decimal h.processors))))

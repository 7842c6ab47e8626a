-- Elements of a picture, as they are written. Assumes nothing.
use Rattle.std.specs.Prelude.{ℕ, List, ◌++◌, codes}
use Rattle.std.specs.Fmt.{decimal}
use Rattle.memory.specs.declared.records.Record.{Record}
use Rattle.telling.specs.Words.{operation_words}
use Rattle.drawing.specs.declared.elements.Frame.{Frame}
use Rattle.drawing.specs.declared.geometry.TheConstants.{NAME_X, NUMBER_X, PLACE_X, RECORD_X, TICK_Y}
use Rattle.drawing.specs.Words.{ordinal_words}

-- the number n of a record
abbrev pub number_words : ℕ → ℕ → List ℕ
number_words y n = codes "<text class='number' x='" ++ (decimal NUMBER_X ++ (codes "' y='" ++ (decimal y ++ (codes "'>" ++ (decimal n ++ codes "</text>")))))

-- what record r did
abbrev pub done_words : ℕ → Record → List ℕ
done_words y r = codes "<text class='record' x='" ++ (decimal RECORD_X ++ (codes "' y='" ++ (decimal y ++ (codes "'>" ++ (operation_words r ++ codes "</text>\n")))))

-- the n-th place
abbrev pub place_words : ℕ → ℕ → List ℕ
place_words y n = codes "<text class='place' x='" ++ (decimal PLACE_X ++ (codes "' y='" ++ (decimal y ++ (codes "'>" ++ (ordinal_words n ++ codes "</text>\n")))))

-- the lane of processor p
abbrev pub lane_words : List ℕ → Frame → ℕ → ℕ → List ℕ
lane_words class f y p =
    codes "<rect class='" ++ (class ++ (codes "' x='" ++ (decimal f.x ++ (codes "' y='" ++ (decimal f.y ++ (codes "' width='" ++ (decimal f.width ++ (codes "' height='" ++ (decimal f.height ++ (codes "'/><text class='name' x='" ++ (decimal NAME_X ++ (codes "' y='" ++ (decimal y ++ (codes "'>P" ++ (decimal p ++ codes "</text>\n")))))))))))))))

-- a column
abbrev pub column_words : ℕ → ℕ → ℕ → List ℕ
column_words x top bottom = codes "<path class='grid' d='M" ++ (decimal x ++ (codes " " ++ (decimal top ++ (codes "V" ++ (decimal bottom ++ codes "'/>")))))

-- the reading t above it
abbrev pub reading_words : ℕ → ℕ → List ℕ
reading_words x t = codes "<text class='tick' x='" ++ (decimal x ++ (codes "' y='" ++ (decimal TICK_Y ++ (codes "'>" ++ (decimal t ++ codes "</text>\n")))))

-- a label
abbrev pub label_words : ℕ → ℕ → List ℕ → List ℕ
label_words x y name = codes "<text class='rule' x='" ++ (decimal x ++ (codes "' y='" ++ (decimal y ++ (codes "'>" ++ (name ++ codes "</text>\n")))))

-- The lines of a paper, and whether they are founded. Assumes nothing.
use Rattle.std.specs.Prelude.{Bool, false, List, [], ◌∷◌, reverse, Some, None, Option}
use Rattle.memory.specs.declared.lines.Line.{Line}
use Rattle.memory.specs.declared.lines.Rule.{Rule}
use Rattle.memory.specs.Numbers.{rule_at}
use Rattle.memory.specs.Runs.{Run}
use Rattle.wire.specs.declared.fields.WrittenLine.{WrittenLine}
use Rattle.inference.specs.Next.{fits, if_fits, line_of}
use Rattle.inference.specs.Worth.{opposes}

-- a written line with its rule, founded: it follows from the run and the lines before it, and its pair is new
abbrev pub founded_by : Option Rule → Run → List Line → WrittenLine → Option Line
founded_by None R ls w = None
founded_by (Some r) R ls w = let l = line_of r w.first w.second w.third in if_fits (fits R ls l) l

-- the line that is written, if it is founded
abbrev pub founded_line : Run → List Line → WrittenLine → Option Line
founded_line R ls w = founded_by (rule_at w.rule) R ls w

-- of lines, the last first, whether the last is opposed to an earlier one
abbrev pub newest_opposed : List Line → Bool
newest_opposed [] = false
newest_opposed (l ∷ before) = opposes (reverse before) l

-- the last line is opposed to an earlier one
abbrev pub last_opposed : List Line → Bool
last_opposed ls = newest_opposed (reverse ls)

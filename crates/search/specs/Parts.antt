-- What the private parts of a step ask. Assumes nothing.
use Rattle.std.specs.Prelude.{ℕ, Bool, not, ◌&&◌, List, ◌==◌}
use Rattle.std.specs.List.{list_any}
use Rattle.memory.specs.declared.lines.Line.{Line}
use Rattle.memory.specs.Runs.{Run, has, must_precede}
use Rattle.inference.specs.Rules.{known}

-- another unplaced record must come before k: by the model or the clock
abbrev pub awaits_by_setting : Run → List ℕ → ℕ → ℕ → Bool
awaits_by_setting R placed k u = not (u == k) && ((known R u && (known R k && must_precede R u k)) && not (has placed u))

-- the line puts another unplaced record before k
abbrev pub line_awaits : Run → List ℕ → ℕ → Line → Bool
line_awaits R placed k l = l.second == k && (not (l.first == k) && (known R l.first && not (has placed l.first)))

-- or by a listed line
abbrev pub awaits_by_line : Run → List Line → List ℕ → ℕ → Bool
awaits_by_line R ls placed k = list_any (line_awaits R placed k) ls

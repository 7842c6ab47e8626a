-- The limits of runs, of steps and of the programs.
use Rattle.std.specs.Prelude.{ℕ}

-- a run has at most so many records
abbrev pub most_records : ℕ
most_records = 64

-- 64 × 63: the pairs of two different records, and a pair is listed once
abbrev pub most_lines : ℕ
most_lines = 4032

-- a run has 1 to so many processors
abbrev pub most_processors : ℕ
most_processors = 16

-- 2^62: every reading of a counter is below it
abbrev pub reading_limit : ℕ
reading_limit = 4611686018427387904

-- 2^62: no case makes more steps in all since its opening
abbrev pub most_steps : ℕ
most_steps = 4611686018427387904

-- so many steps the programs search
abbrev pub program_steps : ℕ
program_steps = 1000000

-- so many bytes of a program's input count
abbrev pub input_limit : ℕ
input_limit = 4096

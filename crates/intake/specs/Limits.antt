-- How much is read.
use Rattle.std.specs.Prelude.{ℕ}

-- so many bytes of a file are read at most
abbrev pub file_limit : ℕ
file_limit = 65536

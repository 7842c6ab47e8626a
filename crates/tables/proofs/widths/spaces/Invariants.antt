use Rattle.std.proofs.Common.{◌≡◌, string_bytes}
use Rattle.tables.specs.Widths.{spaces}
use Rattle.tables.proofs.widths.spaces.Given as goal

abbrev pub invariant-loop-done : goal.invariant-loop-done
invariant-loop-done l = string_bytes l.spaces ≡ spaces l._done

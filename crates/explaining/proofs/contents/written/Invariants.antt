use Rattle.std.proofs.Common.{◌≡◌, take}
use Rattle.explaining.specs.Memory.{written}
use Rattle.explaining.proofs.contents.written.Given as goal

abbrev pub invariant-loop-number : goal.invariant-loop-number
invariant-loop-number l = l.addresses.items ≡ written l.records (take l.number-index l.front)

use Rattle.std.proofs.Common.{◌≡◌, drop}
use Rattle.logs.specs.Numbers.{number_on}
use Rattle.logs.proofs.numbers.number_on.Given as goal

abbrev pub invariant-loop-digit : goal.invariant-loop-digit
invariant-loop-digit l = number_on l.radix l.number (drop l.digit-index l.digits) ≡ number_on l.radix 0 l.digits

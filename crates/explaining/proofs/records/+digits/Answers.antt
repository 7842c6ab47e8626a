use Rattle.std.proofs.Common.{rules}
use Rattle.explaining.proofs.Digits.{one_digit, one_more, few}
use Rattle.explaining.proofs.records.+digits.Goals as goal

pub overflow_add-result : goal.overflow_add-result
overflow_add-result t c = search (rules, few)

pub returns-then-n-lt10 : goal.returns-then-n-lt10
returns-then-n-lt10 t c = search (rules, one_digit)

pub returns-else-n-lt10 : goal.returns-else-n-lt10
returns-else-n-lt10 t c = search (rules, one_more)

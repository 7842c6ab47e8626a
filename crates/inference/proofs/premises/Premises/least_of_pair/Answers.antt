use Rattle.std.proofs.Common.{rules}
use Rattle.inference.proofs.Thirds.{not_new}
use Rattle.inference.proofs.premises.Premises.least_of_pair.Goals as goal

pub returns-then-is_listed : goal.returns-then-is_listed
returns-then-is_listed g c = search (rules, not_new)

use Rattle.std.proofs.Common.{rules}
use Rattle.explaining.proofs.Held.{holds_last}
use Rattle.explaining.proofs.contents.held.Goals as goal

pub returns-clause-last : goal.returns-clause-last
returns-clause-last c = holds_last c.args.records.now c.args.front.now c.args.address c.fold.result (search rules)

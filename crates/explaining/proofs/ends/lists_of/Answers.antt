use Rattle.std.proofs.Common.{rules, ◌^◌}
use Rattle.explaining.proofs.Enough.{beyond}
use Rattle.explaining.proofs.ends.lists_of.Goals as goal

pub returns-in_err-checked_mul : goal.returns-in_err-checked_mul
returns-in_err-checked_mul c = search (rules, beyond c.loop-n.n c.args.records c.loop-n.lists (2 ^ 64))

pub returns-in_err-lists : goal.returns-in_err-lists
returns-in_err-lists c = search (rules, beyond c.loop-n.n c.args.records c.loop-n.lists (2 ^ 64))

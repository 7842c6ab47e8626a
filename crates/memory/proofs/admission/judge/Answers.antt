use Rattle.std.proofs.Common.{Err, rules}
use Rattle.memory.specs.declared.refusals.Refusal.TheVariants as refuse
use Rattle.memory.proofs.Admissible.{breaks}
use Rattle.memory.proofs.admission.judge.Goals as goal

pub returns-then-records-ge-MOST_RECORDS-clause-breaks : goal.returns-then-records-ge-MOST_RECORDS-clause-breaks
returns-then-records-ge-MOST_RECORDS-clause-breaks c = breaks c.args.processors c.args.records.now c.args.e (Err refuse.Full) (search rules)

pub returns-then-e-processors-clause-breaks : goal.returns-then-e-processors-clause-breaks
returns-then-e-processors-clause-breaks c = breaks c.args.processors c.args.records.now c.args.e (Err refuse.Stranger) (search rules)

pub returns-clause-breaks : goal.returns-clause-breaks
returns-clause-breaks c = breaks c.args.processors c.args.records.now c.args.e c.judge_content.result (search rules)

use Rattle.std.proofs.Common.{vec_items}
use Rattle.memory.proofs.Lawful.{lawful_all}
use Rattle.case.proofs.cases.Case.records.Goals as goal

pub returns-clause-lawful : goal.returns-clause-lawful
returns-clause-lawful g c = let held = c.held.inside in rw (c.as_slice.ensures.value, ← c.held.view_is) (lawful_all held.processors (vec_items held.records) held.lawful)

use Rattle.std.proofs.Common.{subst}
use Rattle.inference.proofs.Follows.{is_known}
use Rattle.inference.specs.Views.{run_is}
use Rattle.search.specs.Placing.{Takes}
use Rattle.search.specs.Views.{standing_of}
use Rattle.search.proofs.searches.Search.step.Goals as goal

pub place-requires-clause-known : goal.place-requires-clause-known
place-requires-clause-known g c =
    is_known _ _ (subst (Takes (run_is c.args.run.now) c.args.lines.now (standing_of c.args.self.now)) c.in-Some.is c.next_record.ensures.least).0.known

pub place-requires-clause-unplaced : goal.place-requires-clause-unplaced
place-requires-clause-unplaced g c =
    (subst (Takes (run_is c.args.run.now) c.args.lines.now (standing_of c.args.self.now)) c.in-Some.is c.next_record.ensures.least).0.unplaced

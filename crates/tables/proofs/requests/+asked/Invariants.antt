use Rattle.std.proofs.Common.{length}
use Rattle.tables.proofs.requests.+asked.Given as goal

abbrev pub decreases-asked : goal.decreases-asked
decreases-asked l = length l.words.now

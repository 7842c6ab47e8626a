use Rattle.std.proofs.Common.{◌≡◌, [], drop}
use Rattle.assembling.specs.Assembly.{admitted}
use Rattle.assembling.proofs.assembly.admitted.Given as goal

abbrev pub invariant-loop-access : goal.invariant-loop-access
invariant-loop-access l = admitted l.processors l.records.items (drop l.access-index l.accesses) ≡ admitted l.processors [] l.accesses

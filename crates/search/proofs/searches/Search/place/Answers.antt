use Rattle.std.proofs.Common.{length, arith, vec_items}
use Rattle.memory.specs.Limits.{most_records}
use Rattle.search.proofs.Distinct.{room_left, among_more}
use Rattle.search.proofs.searches.Search.place.Goals as goal

pub push_reserved-requires : goal.push_reserved-requires
push_reserved-requires g c =
    let self = c.args.self.now in
    let within = among_more (length c.args.run.now.records.now) most_records c.args.number (c.args.run.now.few) c.requires.known in
    omega (arith, self.room, room_left most_records (vec_items self.placed) c.args.number within c.requires.unplaced self.apart)

use Rattle.std.proofs.Common.{◌≡◌, ◌+◌, length, drop, []}
use Rattle.std.specs.List.{All}
use Rattle.logs.specs.Reading.{lines_read, lines_of, unsaid}
use Rattle.logs.specs.Sayable.{Sayable}
use Rattle.logs.proofs.reading.read_log.Given as goal

abbrev pub invariant-loop-i : goal.invariant-loop-i
invariant-loop-i l = record {
  said : lines_read (length l.yielded + 1) l.heading l.accesses.items (drop (length l.yielded) (lines_of l.text)) ≡ lines_read 1 unsaid [] (lines_of l.text);
  sayable : All (λ a. Sayable a.entry) l.accesses.items;
}

-- The lines of a case stay lines of its records, no pair twice. Assumes nothing.
use Rattle.std.proofs.Common.{◌≡◌, ℕ, ◌≤◌, true, List, Ok, Err, Result, IfOk}
use Rattle.memory.specs.declared.lines.Line.{Line}
use Rattle.memory.specs.declared.refusals.Refusal.{Refusal}
use Rattle.memory.specs.Runs.{Run}
use Rattle.inference.specs.declared.lines.Listed.{Listed}
use Rattle.inference.specs.Listing.{Lists}
use Rattle.inference.specs.Paired.{paired}
use Rattle.inference.specs.Views.{listing}
use Rattle.inference.proofs.Room.{lists_paired}

pub still_paired : (R : Run) (k n : ℕ) (ls after : List Line) (r : Result Listed Refusal) (l : Listed) → r ≡ Ok l → IfOk r (λ l. Lists R k ls (listing l after)) → R.size ≤ n → paired n ls ≡ true → paired n after ≡ true
still_paired R k n ls after (Ok l') l is lists few h = lists_paired lists n few h
still_paired R k n ls after (Err e) l is lists few h = absurd cc

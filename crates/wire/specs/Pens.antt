-- What a pen writes into lent bytes. Assumes nothing.
use Rattle.std.specs.Prelude.{◌≡◌, ℕ, ◌+◌, ◌≤◌, List, ◌++◌, length, take, drop}
use Rattle.wire.specs.declared.writing.pen.Pen.{Pen}

-- the bytes that are written, and those that are left
abbrev pub done : Pen → List ℕ
done p = take p.at p.out.now

abbrev pub rest : Pen → List ℕ
rest p = drop p.at p.out.now

abbrev pub HasRoom : Pen → ℕ → Type 0
HasRoom p n = p.at + n ≤ length p.out.now

-- bs is written behind what was written before, into the same lent bytes
pub record Put (before after : Pen) (bs : List ℕ) : Type 0 where
  pub same : after.out.ghost_name ≡ before.out.ghost_name
  pub at : after.at ≡ before.at + length bs
  pub long : length after.out.now ≡ length before.out.now
  pub done : done after ≡ done before ++ bs
  pub rest : rest after ≡ drop (length bs) (rest before)

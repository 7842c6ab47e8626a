-- What a list over a lent slice holds. Assumes nothing.
use Rattle.std.specs.Prelude.{◌≡◌, ◌≤◌, List, [], ◌∷◌, ◌++◌, length, take, drop, Ok, Err, Result}
use Rattle.lists.specs.declared.lent.NoPlace.{NoPlace}
use Rattle.lists.specs.declared.lent.LentList.{LentList}

-- the entries, and what stands in the places behind them
abbrev pub entries : {T : Type 0} → LentList T → List T
entries l = take l.len l.places.now

abbrev pub rest : {T : Type 0} → LentList T → List T
rest l = drop l.len l.places.now

-- a list has these entries more, in the same lent places; the places behind them are as they were
pub record Grown {T : Type 0} (before after : LentList T) (more : List T) : Type 0 where
  pub same : after.places.ghost_name ≡ before.places.ghost_name
  pub entries : entries after ≡ entries before ++ more
  pub room : length more ≤ length (rest before)
  pub rest : rest after ≡ drop (length more) (rest before)

-- an entry more, or no place is left
abbrev pub Pushed : {T : Type 0} → LentList T → LentList T → T → Result (Unit {0}) NoPlace → Type 0
Pushed before after x (Ok u) = Grown before after (x ∷ [])
Pushed before after x (Err e) = (rest before ≡ []) × Grown before after []

-- xs in the first places, with the others as they were
abbrev pub filled : {T : Type 0} → List T → List T → List T
filled xs places = xs ++ drop (length xs) places

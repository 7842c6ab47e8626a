-- A model and a clock, as clauses of generic code name them.
use Rattle.std.specs.Borrow.{Bor}
use Rattle.memory.specs.declared.models.Model as model
use Rattle.memory.specs.declared.clocks.Clock as clock
use Rattle.memory.specs.declared.settings.Setting as pair
use Rattle.memory.specs.Runs.{Setting, setting}

-- what a pair of a model and a clock orders, and its marks
abbrev pub setting_of : {M C : Type 0} (m : model.Ghosts M) (c : clock.Ghosts C) → pair.Setting M C → Setting
setting_of m c s = setting (m.orders s.model) (c.earlier s.clock) m.MARK c.MARK

-- and where both are lent
abbrev pub setting_lent : {M C : Type 0} (m : model.Ghosts M) (c : clock.Ghosts C) → pair.Setting (Bor M) (Bor C) → Setting
setting_lent m c s = setting (m.orders s.model.now) (c.earlier s.clock.now) m.MARK c.MARK

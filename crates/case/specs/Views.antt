-- A case of the code, as a state.
use Rattle.case.specs.declared.cases.Case.{Case}
use Rattle.case.specs.State.{State}

abbrev pub view : {M C : Type 0} → Case M C → State
view c = c.held

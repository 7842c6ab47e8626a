-- The refusal, the layer and the place of a referee's fault.
use Rattle.memory.specs.declared.refusals.Fault.{Fault}
use Rattle.wire.specs.Faults.{run_fault, paper_fault}
use Rattle.referee.specs.declared.faults.RefereeFault.{RefereeFault}
use Rattle.referee.specs.declared.faults.RefereeFault.TheVariants.{Run, Paper}

-- those of the run's fault, or of the paper's
abbrev pub referee_fault : RefereeFault → Fault
referee_fault (Run f) = run_fault f
referee_fault (Paper f) = paper_fault f

-- The refusal, the layer and the place of a fault.
use Rattle.memory.specs.declared.refusals.Fault.{Fault}
use Rattle.memory.specs.declared.refusals.Refusal.TheVariants as refuse
use Rattle.memory.specs.declared.refusals.Layer.TheVariants as layer
use Rattle.wire.specs.declared.faults.RunFault.{RunFault}
use Rattle.wire.specs.declared.faults.RunFault.TheVariants.{Bytes, Content}
use Rattle.wire.specs.declared.faults.PaperFault.{PaperFault}
use Rattle.wire.specs.declared.faults.PaperFault.TheVariants as paper

-- bytes that make no field are malformed; what a field holds is refused by its own word
abbrev pub run_fault : RunFault → Fault
run_fault (Bytes e) = record { refusal = refuse.Malformed; layer = layer.RunBytes; place = e.place }
run_fault (Content r at) = record { refusal = r; layer = layer.Content; place = at }

-- a paper's head, which has the place 0, lines and conclusion are refused by their own words
abbrev pub paper_fault : PaperFault → Fault
paper_fault (paper.Bytes e) = record { refusal = refuse.Malformed; layer = layer.PaperBytes; place = e.place }
paper_fault paper.Foreign = record { refusal = refuse.Foreign; layer = layer.PaperBytes; place = 0 }
paper_fault (paper.Conclusion r at) = record { refusal = r; layer = layer.Conclusion; place = at }

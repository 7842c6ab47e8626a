-- What the fields of a run say. Assumes nothing.
use Rattle.std.proofs.Common.{◌≡◌, ℕ, true, Some, Ok, arith}
use Rattle.std.proofs.lemmas.Grind.{common_steps}
use Rattle.memory.specs.Admission.{opens}
use Rattle.wire.specs.declared.fields.RunHead.{RunHead}
use Rattle.wire.specs.declared.runs.EntryAt.{EntryAt}
use Rattle.wire.specs.Fields.{head_field, record_field, Shown}
use Rattle.wire.specs.Said.{head_said, entry_said}

-- a field that says an entry is a record, and the entry has its place
pub said_entry : (f : Shown) (x : EntryAt) → entry_said f ≡ Ok (Some x) → (f.sort ≡ record_field) × (x.place ≡ f.place)
said_entry f x = grind (arith, common_steps)

-- a head that passes has the two marks, and a run may have its processors
pub said_head : (model clock : ℕ) (f : Shown) (h : RunHead) → head_said model clock f ≡ Ok h → (f.sort ≡ head_field) × (h.model ≡ model) × (h.clock ≡ clock) × (opens h.processors ≡ true)
said_head model clock f h = grind (arith, common_steps)

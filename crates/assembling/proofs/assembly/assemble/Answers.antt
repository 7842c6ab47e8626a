use Rattle.std.proofs.Common.{rules, ◌≡◌, true, List, [], Ok, sym, subst}
use Rattle.memory.specs.declared.records.Record.{Record}
use Rattle.memory.specs.Admission.{opens}
use Rattle.logs.specs.Reading.{Said}
use Rattle.wire.specs.Bytes.{run_bytes}
use Rattle.logs.specs.Heads.{model_mark, clock_mark}
use Rattle.assembling.specs.Assembly.{admitted, assembled, IsRefusal}
use Rattle.assembling.specs.RoundTrips.{IsRunOf}
use Rattle.assembling.proofs.Refusals.{explained}
use Rattle.assembling.proofs.Runs.{is_run}
use Rattle.assembling.proofs.assembly.assemble.Goals as goal

pub returns-clause-run : goal.returns-clause-run
returns-clause-run c =
    let log = c.in_ok-log.log in
    let said : Said = record { head = log.head; accesses = log.accesses.items } in
    let rs : List Record = c.in_ok-records.records.items in
    let ok : opens log.head.processors ≡ true = search rules in
    let is : admitted log.head.processors [] log.accesses.items ≡ Ok rs = search rules in
    let bytes : c.in_ok-run_of.field-0.items ≡ run_bytes log.head.processors (model_mark log.head.model) (clock_mark log.head.clock) rs = search rules in
    subst (IsRunOf c.args.text.now) (sym bytes) (is_run c.args.text.now said rs c.in_ok-log.ensures.said ok c.in_ok-log.ensures.sayable is c.in_ok-log.ensures.reads_back)

pub returns-in-Err-clause-refusal : goal.returns-in-Err-clause-refusal
returns-in-Err-clause-refusal c =
    let is : IsRefusal (assembled c.args.text.now) c.into.result = search rules in
    explained c.args.text.now c.into.result is

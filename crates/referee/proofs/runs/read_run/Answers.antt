use Rattle.std.proofs.Common.{◌≡◌, ◌≤◌, length, refl, ap, sym, arith}
use Rattle.case.proofs.Exits.{fell_with}
use Rattle.case.proofs.Loads.{head_first, whole_run}
use Rattle.referee.proofs.Reading.{headed, read_fell}
use Rattle.referee.proofs.runs.read_run.Goals as goal

pub returns-in_err-take_records-clause-read : goal.returns-in_err-take_records-clause-read
returns-in_err-take_records-clause-read g c =
    let over = c.over-reader.ensures in
    let read = c.in_ok-next.ensures in
    let said = c.in_ok-head.ensures in
    let told = c.in_err-take_records.ensures in
    let six : c.next.new.self.at ≡ 6 = omega (arith, read.passed.moved, over.start, ap length said.back) in
    let went = headed g.M.Model.MARK g.C.Clock.MARK over.text over.start read.answer read.passed (sym said.value) six in
    rw (fell_with c.from_residual-in_err-take_records.ensures.1, ← over.bytes)
    (read_fell g.M.Model.MARK g.C.Clock.MARK _ c.requires told.grown.0 told.grown.1 _ _ 0 six _ _ went told.read)

pub returns-clause-written : goal.returns-clause-written
returns-clause-written g c =
    let over = c.over-reader.ensures in
    let read = c.in_ok-next.ensures in
    let said = c.in_ok-head.ensures in
    let told = c.in_ok-take_records.ensures in
    let reader = c.take_records.new.reader in
    let head = head_first g.M.Model.MARK g.C.Clock.MARK over.text over.start read.passed (sym said.value) said.back in
    let walked = rw (c.requires, read.bytes) at told.walked in
    let end : length c.over-reader.result.bytes.now ≤ reader.at = omega (arith, c.in_ok-finish.ensures, ap (λ b. length b.now) told.bytes, ap (λ b. length b.now) read.bytes) in
    (c.in_ok-head.head.processors, rw (← over.bytes) (whole_run g.M.Model.MARK g.C.Clock.MARK _ head walked reader.at refl end))

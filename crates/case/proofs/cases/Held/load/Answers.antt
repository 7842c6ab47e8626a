use Rattle.std.proofs.Common.{ℕ, ◌<◌, length, refl, sym, ap, arith}
use Rattle.wire.specs.declared.faults.RunFault.TheVariants.{Bytes}
use Rattle.case.specs.Loading.{place_of}
use Rattle.case.proofs.Loads.{head_first, kept, ended_behind}
use Rattle.case.proofs.Sealed.{sealed_claims}
use Rattle.case.proofs.Exits.{fell_with}
use Rattle.case.proofs.cases.Held.load.Goals as goal

pub returns-in_err-load_fields-clause-kept : goal.returns-in_err-load_fields-clause-kept
returns-in_err-load_fields-clause-kept g c =
    let read = c.in_ok-next.ensures in
    let said = c.in_ok-head.ensures in
    let told = c.in_err-load_fields.ensures in
    let head = head_first g.M.Model.MARK g.C.Clock.MARK c.over-reader.ensures.text c.over-reader.ensures.start read.passed (sym said.value) said.back in
    let walked = rw (c.begin.ensures, read.bytes) at told.walked in
    let e = c.in_err-load_fields.field-0.0 in
    let behind : 0 < place_of e = omega (arith, read.passed.moved, told.place) in
    rw (fell_with c.from_residual-in_err-load_fields.ensures.1, ← c.over-reader.ensures.bytes) (kept g.M.Model.MARK g.C.Clock.MARK _ head walked c.args.self.now e behind)

pub returns-in_err-finish-clause-kept : goal.returns-in_err-finish-clause-kept
returns-in_err-finish-clause-kept g c =
    let read = c.in_ok-next.ensures in
    let said = c.in_ok-head.ensures in
    let told = c.in_ok-load_fields.ensures in
    let s = c.args.self.now in
    let head = head_first g.M.Model.MARK g.C.Clock.MARK c.over-reader.ensures.text c.over-reader.ensures.start read.passed (sym said.value) said.back in
    let walked = rw (c.begin.ensures, read.bytes) at told.walked in
    let to : ℕ = c.load_fields.new.reader.at in
    let left : to < length c.over-reader.result.bytes.now = rw (told.bytes, read.bytes) at c.in_err-finish.ensures.0 in
    let behind = ended_behind g.M.Model.MARK g.C.Clock.MARK _ head walked to refl left in
    rw (fell_with c.from_residual-in_err-finish.ensures.1, ← c.over-reader.ensures.bytes) (kept g.M.Model.MARK g.C.Clock.MARK _ head walked s (Bytes c.in_err-finish.field-0.0) (omega (arith, behind, ap (λ x. x.place) c.in_err-finish.ensures.1)))

pub returns-clause-claims : goal.returns-clause-claims
returns-clause-claims g c =
    let u = c.load_fields.new.self in
    λ S. rw (c.close.ensures.answer, ap (λ x. x.records) c.close.ensures.state) (sealed_claims S u.records)

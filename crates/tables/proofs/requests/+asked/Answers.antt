use Rattle.std.proofs.Common.{◌∙◌, ap, ◌∷◌, sym, subst, refl}
use Rattle.intake.specs.Arguments.{texts}
use Rattle.tables.specs.Requests.{AsksRuns}
use Rattle.tables.proofs.Grammar.{for_csv, for_latex, for_quiet, for_dashes, for_steps, for_name, along, first_and_rest}
use Rattle.tables.proofs.requests.+asked.Goals as goal

pub returns-in-Csv : goal.returns-in-Csv
returns-in-Csv t c =
    let is = first_and_rest c.args.words.now c.in_ok-first.first.now c.in_ok-first.rest.now c.as_str.result.now c.in_ok-first.ensures.cases.0 c.as_str.ensures.value in
    along c.asked.result c.args.options _ _ is (for_csv c.asked.result c.args.options c.as_str.result.now (texts c.in_ok-first.rest.now) c.in-Csv.ensures c.asked.ensures)

pub returns-in-Latex : goal.returns-in-Latex
returns-in-Latex t c =
    let is = first_and_rest c.args.words.now c.in_ok-first.first.now c.in_ok-first.rest.now c.as_str.result.now c.in_ok-first.ensures.cases.0 c.as_str.ensures.value in
    along c.asked-in-Latex.result c.args.options _ _ is (for_latex c.asked-in-Latex.result c.args.options c.as_str.result.now (texts c.in_ok-first.rest.now) c.in-Latex.ensures c.asked-in-Latex.ensures)

pub returns-in-Quiet : goal.returns-in-Quiet
returns-in-Quiet t c =
    let is = first_and_rest c.args.words.now c.in_ok-first.first.now c.in_ok-first.rest.now c.as_str.result.now c.in_ok-first.ensures.cases.0 c.as_str.ensures.value in
    along c.asked-in-Quiet.result c.args.options _ _ is (for_quiet c.asked-in-Quiet.result c.args.options c.as_str.result.now (texts c.in_ok-first.rest.now) c.in-Quiet.ensures c.asked-in-Quiet.ensures)

pub returns-in-End : goal.returns-in-End
returns-in-End t c =
    let is = first_and_rest c.args.words.now c.in_ok-first.first.now c.in_ok-first.rest.now c.as_str.result.now c.in_ok-first.ensures.cases.0 c.as_str.ensures.value in
    along c.named.result c.args.options _ _ is (for_dashes c.named.result c.args.options c.as_str.result.now (texts c.in_ok-first.rest.now) c.in-End.ensures c.named.ensures)

pub returns-in_ok-steps-in-Steps : goal.returns-in_ok-steps-in-Steps
returns-in_ok-steps-in-Steps t c =
    let number = c.in_ok-number-in-Steps in
    let first = first_and_rest c.args.words.now c.in_ok-first.first.now c.in_ok-first.rest.now c.as_str.result.now c.in_ok-first.ensures.cases.0 c.as_str.ensures.value in
    let second = first_and_rest c.in_ok-first.rest.now number.number.now number.rest.now c.as_str-in-Steps.result.now number.ensures.cases.0 c.as_str-in-Steps.ensures.value in
    along c.asked-in-Steps.result c.args.options _ _ (first ∙ ap (λ l. c.as_str.result.now ∷ l) second)
    (for_steps c.asked-in-Steps.result c.args.options c.as_str.result.now c.as_str-in-Steps.result.now (texts number.rest.now) c.in_ok-steps-in-Steps.steps c.in-Steps.ensures c.in_ok-steps-in-Steps.ensures c.asked-in-Steps.ensures)

pub returns-in-Name : goal.returns-in-Name
returns-in-Name t c =
    let is = first_and_rest c.args.words.now c.in_ok-first.first.now c.in_ok-first.rest.now c.as_str.result.now c.in_ok-first.ensures.cases.0 c.as_str.ensures.value in
    subst (λ l. AsksRuns c.args.options l (record { options = c.args.options; names = c.args.words })) (sym is)
    (for_name c.args.options c.as_str.result.now (texts c.in_ok-first.rest.now) (record { options = c.args.options; names = c.args.words }) c.in-Name.ensures refl is)

use Rattle.std.proofs.Common.{sym, ◌∙◌}
use Rattle.std.proofs.lemmas.Bool.Decides.{Decides-eqb}
use Rattle.std.proofs.lemmas.Slice.Eq.{slice_eq-Decides}
use Rattle.intake.proofs.Words.{alone}
use Rattle.intake.proofs.Errand.of.Goals as goal

pub returns-in-len1 : goal.returns-in-len1
returns-in-len1 c =
    let says = (slice_eq-Decides Decides-eqb c.as_str.result.now _ c.eq.result c.eq.ensures).0 c.if-eq.true in
    alone c.args.words.now c.word-item.result _ c.in-len1.len_at_least c.in-len1.len_below c.word-item.is (sym c.as_str.ensures.value ∙ says)

use Rattle.std.proofs.Common.{sym, ◌∙◌, inr}
use Rattle.std.proofs.lemmas.Bool.Decides.{Decides-eqb}
use Rattle.std.proofs.lemmas.Slice.Eq.{slice_eq-Decides}
use Rattle.intake.proofs.Words.{alone, two}
use Rattle.intake.proofs.SearchRequest.of.Goals as goal

pub returns-in-len1 : goal.returns-in-len1
returns-in-len1 c =
    let says = (slice_eq-Decides Decides-eqb c.as_str.result.now _ c.eq.result c.eq.ensures).0 c.if-eq.true in
    sym (alone c.args.words.now c.word-item.result _ c.in-len1.len_at_least c.in-len1.len_below c.word-item.is (sym c.as_str.ensures.value ∙ says))

pub returns-in_ok-steps-in-len2 : goal.returns-in_ok-steps-in-len2
returns-in_ok-steps-in-len2 c =
    let says = (slice_eq-Decides Decides-eqb c.as_str-then-words-lt3.result.now _ c.eq-then-words-lt3.result c.eq-then-words-lt3.ensures).0 c.if-eq-2.true in
    inr (
      c.as_str-in-len2.result.now,
      two c.args.words.now c.flag-item.result c.number-item.result _ _ c.in-len2.len_at_least c.in-len2.len_below c.flag-item.is c.number-item.is (sym c.as_str-then-words-lt3.ensures.value ∙ says) (sym c.as_str-in-len2.ensures.value),
      c.in_ok-steps-in-len2.ensures,
    )

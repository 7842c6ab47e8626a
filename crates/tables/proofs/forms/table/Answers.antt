use Rattle.std.proofs.Common.{rules, ◌≡◌, ◌∷◌, subst, sym, map, ap, ◌∙◌}
use Rattle.std.proofs.lemmas.Result.{IfOk-weaker}
use Rattle.tables.specs.declared.forms.Form.TheVariants.{Csv}
use Rattle.tables.specs.Forms.{lines_in, aligned_in, shown_rows, InColumns}
use Rattle.tables.specs.Reading.{csv_rows}
use Rattle.tables.specs.Rows.{cells, headings}
use Rattle.tables.proofs.Columns.{columns}
use Rattle.tables.proofs.Csv.{table_read}
use Rattle.tables.proofs.forms.table.Goals as goal

pub returns-in-Csv-clause-reads : goal.returns-in-Csv-clause-reads
returns-in-Csv-clause-reads c =
    let rows = map cells c.args.rows.now in
    IfOk-weaker c.lines.result _ _
    (λ v p f. ap csv_rows (p ∙ (ap (λ x. lines_in x (cells c.in_ok-heads.heads) rows) f ∙ ap (λ h. lines_in Csv h rows) c.in_ok-heads.ensures)) ∙ table_read c.args.rows.now)
    c.lines.ensures

pub returns-in-Aligned-clause-columns : goal.returns-in-Aligned-clause-columns
returns-in-Aligned-clause-columns c =
    let shown = shown_rows (map cells c.args.rows.now) in
    let heads = cells c.in_ok-heads.heads in
    let rows : map cells c.deref.result.now ≡ shown = search rules in
    IfOk-weaker c.aligned.result _ _
    (λ v p f. subst (InColumns (headings ∷ shown)) (sym (p ∙ (ap (λ h. aligned_in h (map cells c.deref.result.now)) c.in_ok-heads.ensures ∙ ap (aligned_in headings) rows))) (columns c.args.rows.now))
    c.aligned.ensures

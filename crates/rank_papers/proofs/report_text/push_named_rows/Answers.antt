use Rattle.std.proofs.Common.{◌+◌, ◌++◌, ◌∙◌, List, ℕ, ap, sym, subst}
use Rattle.rank_query.specs.Meaning.Asked.{Query}
use Rattle.rank_papers.specs.declared.paper.Row.{Row}
use Rattle.rank_papers.specs.Meaning.Report.{text_line, row_fields}
use Rattle.rank_papers.proofs.GivenRows.{HasGiven, HasGiven-more}
use Rattle.rank_papers.proofs.report_text.push_named_rows.Goals as goal

-- one row more
pub loop-place-preserved : goal.loop-place-preserved
loop-place-preserved c =
    let q : Query = c.args.query.now in
    let row : Row = c.index-rows-place.result in
    let before : List ℕ = c.args.paper.now.items in
    let HasMore : List ℕ → Type 0 = HasGiven q c.args.rows.now (c.loop-place.place + 1) before in
    let with_name : List ℕ → List ℕ = λ name.
    c.loop-place.paper.items ++ text_line (row_fields q (c.loop-place.place + 1, (row.candidate, name))) in
    subst HasMore (sym (c.in_ok-push_named.ensures ∙ ap with_name c.deref.ensures.value))
    (HasGiven-more q c.args.rows.now c.loop-place.place row before c.loop-place.paper.items c.loop-place-test.true
    c.index-rows-place.is c.loop-place.invariant)

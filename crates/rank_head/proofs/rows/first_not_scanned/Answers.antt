use Rattle.std.proofs.Common.{◌≡◌, List, true, false, Some, None, arith, sym, subst, ◌∙◌}
use Rattle.std.proofs.lemmas.List.{get_or_default}
use Rattle.rank_papers.specs.declared.paper.Row.{Row}
use Rattle.rank_papers.specs.Certificate.{Line}
use Rattle.rank_papers.specs.ReportLines.{named_in}
use Rattle.rank_head.specs.HeadTests.{is_scanned}
use Rattle.rank_head.proofs.FirstPlaces.{first_place, first_place-map}
use Rattle.rank_head.proofs.Tallies.{none-counted, next-counted, few_counted, one_further}
use Rattle.rank_head.proofs.rows.first_not_scanned.Goals as goal

-- no row was counted
pub loop-place-init : goal.loop-place-init
loop-place-init c = record {
  scanned = λ k d low high. absurd (omega arith);
  counted = c.requires.none ∙ none-counted c.args.lines.now;
}

-- there is room for one more
pub count_row-requires-clause-few : goal.count_row-requires-clause-few
count_row-requires-clause-few c = λ k.
    omega (
      arith,
      c.loop-place-test.true,
      few_counted c.loop-place.place c.args.rows.now c.args.lines.now c.loop-place.counts
          c.loop-place.invariant.counted k,
    )

-- the first row that doesn't belong to a series that was scanned
pub returns-then-not-count_row-clause-place : goal.returns-then-not-count_row-clause-place
returns-then-not-count_row-clause-place c =
    let rows : List Row = c.args.rows.now in
    let lines : List Line = c.args.lines.now in
    first_place-map named_in (λ row. is_scanned lines row.0.id) rows (Some c.loop-place.place)
    (first_place (λ (row : Row). is_scanned lines row.candidate.id) rows (Some c.loop-place.place) (
      c.loop-place-test.true,
      λ d. subst (λ (row : Row). is_scanned lines row.candidate.id ≡ false)
          (c.index-rows-place.is
          ∙ get_or_default rows c.loop-place.place c.index-rows-place.result d c.loop-place-test.true)
          (sym c.count_row.ensures.scanned ∙ c.if-not-count_row.true),
      c.loop-place.invariant.scanned,
    ))

-- one row more
pub loop-place-preserved : goal.loop-place-preserved
loop-place-preserved c =
    let rows : List Row = c.args.rows.now in
    let lines : List Line = c.args.lines.now in record {
      scanned = one_further (λ row. is_scanned lines row.candidate.id ≡ true) rows c.loop-place.place
          c.index-rows-place.result c.loop-place-test.true c.index-rows-place.is
          (sym c.count_row.ensures.scanned ∙ c.if-not-count_row.false) c.loop-place.invariant.scanned;
      counted = next-counted rows lines c.loop-place.place c.index-rows-place.result c.loop-place.counts
          c.count_row.new.counts c.loop-place-test.true c.index-rows-place.is c.loop-place.invariant.counted
          (c.count_row.ensures.counted c.if-not-count_row.false);
    }

-- all rows belong to such series
pub returns-clause-place : goal.returns-clause-place
returns-clause-place c =
    let rows : List Row = c.args.rows.now in
    let lines : List Line = c.args.lines.now in
    first_place-map named_in (λ row. is_scanned lines row.0.id) rows None
    (first_place (λ (row : Row). is_scanned lines row.candidate.id) rows None
    (λ k d low high. c.loop-place.invariant.scanned k d low (omega (arith, high, c.loop-place-test.false))))

use Rattle.std.proofs.Common.{◌≡◌, ◌<◌, ◌+◌, ◌++◌, ◌∷◌, [], ◌∙◌, List, ap, length, arith, rules}
use Rattle.std.proofs.lemmas.Bool.Decides.{nat_tests}
use Rattle.std.proofs.lemmas.List.{length-map, map-append, nil_from_length}
use Rattle.rank_papers.specs.ReportLines.{named_in, reported_in}
use Rattle.rank_table.specs.declared.placed.PlacedReport.{PlacedReport}
use Rattle.rank_table.specs.Reports.{line_count, placed_in, placed_report}
use Rattle.rank_table.proofs.Adding.{all_added, behind_is_shorter, count_of_both, lines_within, none_added, numbers_within, one_added, refused_first}
use Rattle.rank_table.proofs.reading.add_reports.Goals as goal

-- one report more, as what it says
placed-more : (new old : List PlacedReport) (p : PlacedReport) → new ≡ old ++ p ∷ []
    → placed_in new ≡ placed_in old ++ placed_report p ∷ []
placed-more new old p is = ap placed_in is ∙ map-append placed_report old (p ∷ [])

-- nothing was read yet
pub reports-init : goal.reports-init
reports-init c = none_added c.args.file c.args.text.now (placed_in c.args.found.now.items)

-- the numbers of the report's lines fit
pub report_after-requires : goal.report_after-requires
report_after-requires c = omega (
  arith,
  c.reports.invariant.lines,
  count_of_both c.reports.rest.now c.first_report.result.0.now c.first_report.result.1.now c.first_report.ensures.lines,
  lines_within c.args.text.now,
)

pub invariant_of-report : goal.invariant_of-report
invariant_of-report c = record {
  fits = omega (
    arith,
    numbers_within c.reports.invariant c.first_report.result.0.now c.first_report.result.1.now
        c.first_report.ensures.lines (reported_in c.in_ok-report.report) c.in_ok-report.ensures.ok,
    length-map c.in_ok-report.report.rows.items named_in,
  );
}

-- a report that is refused refuses the file
pub returns-in_err-report-clause-err : goal.returns-in_err-report-clause-err
returns-in_err-report-clause-err c =
    let told = refused_first c.reports.invariant c.first_report.result.0.now c.first_report.result.1.now
    c.first_report.ensures.lines c.in_err-report.field-0.0 c.in_err-report.ensures.err in
    search (rules, told)

-- the last report was added
pub returns-then-is_empty-clause-ok : goal.returns-then-is_empty-clause-ok
returns-then-is_empty-clause-ok c =
    let none : length c.first_report.result.1.now ≡ 0 = grind (arith, nat_tests) in
    all_added c.reports.invariant c.first_report.result.0.now c.first_report.result.1.now c.first_report.ensures.lines
    (reported_in c.in_ok-report.report) c.in_ok-report.ensures.ok (placed_in c.add.new.found.items)
    (nil_from_length c.first_report.result.1.now none)
    (placed-more c.add.new.found.items c.reports.found.items _ c.in_ok-add.ensures)

-- one report more was added
pub reports-preserved : goal.reports-preserved
reports-preserved c =
    let some : 0 < length c.first_report.result.1.now = grind (arith, nat_tests) in
    let count : c.reports.before + (c.len.result + 3) ≡ c.reports.before + line_count (reported_in c.in_ok-report.report)
    = omega (arith, c.len.ensures, length-map c.in_ok-report.report.rows.items named_in) in
    one_added c.reports.invariant c.first_report.result.0.now c.first_report.result.1.now c.first_report.ensures.lines
    (reported_in c.in_ok-report.report) c.in_ok-report.ensures.ok _ (placed_in c.add.new.found.items) some count
    (placed-more c.add.new.found.items c.reports.found.items _ c.in_ok-add.ensures)

-- what follows a report is shorter
pub reports-smaller : goal.reports-smaller
reports-smaller c =
    behind_is_shorter c.reports.rest.now c.first_report.result.0.now c.first_report.result.1.now
    (reported_in c.in_ok-report.report) c.first_report.ensures.parts c.in_ok-report.ensures.ok

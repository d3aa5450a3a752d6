use Rattle.std.proofs.Common.{ℕ, List, Global, Option, String, map, option_map, ap, subst}
use Rattle.std.proofs.lemmas.Result.{err_from_is_err_and}
use Rattle.rank_input.specs.Feeding.{AreFilesOf, AreOpened, StopsAt}
use Rattle.rank_input.proofs.Openings.{stops-before, stops-behind}
use Rattle.extremes.specs.Tables.{known_report, list_paths, report_paths}
use Rattle.extremes.proofs.ReportsRead.{tables-files, tables-memory}
use Rattle.extremes.proofs.files.table_files.Goals as goal

-- there is no room for the reports
pub returns-in_default-clause-tables : goal.returns-in_default-clause-tables
returns-in_default-clause-tables g c = tables-memory _ _ _ _

-- the table is that of the files that were read
pub returns-clause-tables : goal.returns-clause-tables
returns-clause-tables g c =
    let bytes_of = g.A.Archive.bytes_of c.args.archive.now in
    let opens = g.A.Archive.opens c.args.archive.now in
    let texts = map (λ t. t.items) c.read_reports.new.texts.items in
    tables-files bytes_of opens c.args.asked.now (option_map (λ t. t.items) c.in_ok-stations.stations) texts
    (option_map (λ t. t.now) c.as_deref.result) (map (λ t. t.items) c.as_slice.result.now) c.table_texts.result
    c.as_deref.ensures.value (ap (map (λ t. t.items)) c.as_slice.ensures.value) c.in_ok-stations.ensures.read
    (subst (λ (rs : List (String Global)). AreFilesOf (map (known_report bytes_of) rs) texts) c.deref.ensures.value
    c.in_ok-read_reports.ensures.read)
    c.in_ok-stations.ensures.opened
    (subst (λ (rs : List (String Global)). AreOpened opens (report_paths rs)) c.deref.ensures.value
    c.in_ok-read_reports.ensures.opened)
    c.table_texts.ensures.ok c.table_texts.ensures.err c.table_texts.ensures.wrong

-- the station list can't be read
pub returns-in_err-stations-clause-stopped : goal.returns-in_err-stations-clause-stopped
returns-in_err-stations-clause-stopped g c =
    let opens = g.A.Archive.opens c.args.archive.now in
    let p = err_from_is_err_and c.from_residual.result c.from_residual.ensures.1 in
    rw (p.1, p.2) (stops-before opens _ (list_paths c.args.asked.now.stations)
    (report_paths c.args.asked.now.reports.items) c.in_err-stations.ensures.stopped)

-- or a file of reports can't be
pub returns-in_err-read_reports-clause-stopped : goal.returns-in_err-read_reports-clause-stopped
returns-in_err-read_reports-clause-stopped g c =
    let opens = g.A.Archive.opens c.args.archive.now in
    let p = err_from_is_err_and c.from_residual-in_err-read_reports.result
    c.from_residual-in_err-read_reports.ensures.1 in
    rw (p.1, p.2) (stops-behind opens _ (list_paths c.args.asked.now.stations)
    (report_paths c.args.asked.now.reports.items) c.in_ok-stations.ensures.opened
    (subst (λ (rs : List (String Global)). StopsAt opens (report_paths rs) c.in_err-read_reports.field-0.0.now)
    c.deref.ensures.value c.in_err-read_reports.ensures.stopped))

use Rattle.std.proofs.Common.{◌∷◌, [], ◌+◌, List, Some, drop, option_map, rules, sym, subst, take, take_all}
use Rattle.ghcn_fields.specs.Refusals.{IsRefusal}
use Rattle.rank_table.specs.declared.placed.PlacedReport.{PlacedReport}
use Rattle.rank_table.specs.Reports.{placed_in, placed_report}
use Rattle.rank_table.specs.Reading.{is_memory}
use Rattle.rank_table.specs.Tables.{Fields, PlacedRow, rows_in, rows_of, table_of, table_text}
use Rattle.rank_table.specs.Written.{HasWritten}
use Rattle.rank_table.proofs.RowsOfReports.{rows_of-around, rows_of-next}
use Rattle.rank_table.proofs.Written.{HasWrittenRows, more_rows, no_rows, refused_rows, table_is}
use Rattle.rank_table.proofs.tabling.write_table.Goals as goal

-- no row was written
pub loop-report-init : goal.loop-report-init
loop-report-init c = no_rows (λ v. Some v.items) (option_map (λ s. s.now) c.args.stations) c.write.new.writer

-- the rows of one report more were written
pub loop-report-preserved : goal.loop-report-preserved
loop-report-preserved c =
    let stations = option_map (λ s. s.now) c.args.stations in
    subst (λ (rows : List PlacedRow). HasWrittenRows (λ v. Some v.items) stations c.write.new.writer
    c.write_rows.new.writer rows)
    (sym (rows_of-next c.args.reports.now c.loop-report.report-index c.report-item.result c.loop-report-test.true
    c.report-item.is))
    (more_rows (λ v. Some v.items) stations c.write.new.writer c.loop-report.writer c.write_rows.new.writer
    (rows_of (placed_in (take c.loop-report.report-index c.args.reports.now)))
    (rows_in (placed_report c.report-item.result)) c.loop-report.invariant c.in_ok-write_rows.ensures.ok)

-- a report that is refused refuses the table
pub returns-in_err-write_rows-clause-err : goal.returns-in_err-write_rows-clause-err
returns-in_err-write_rows-clause-err c =
    let stations = option_map (λ s. s.now) c.args.stations in
    let why = c.in_err-write_rows.field-0.0 in
    let told = subst (λ (rows : List PlacedRow). IsRefusal is_memory why (table_of stations rows))
    (sym (rows_of-around c.args.reports.now c.loop-report.report-index c.report-item.result c.loop-report-test.true
    c.report-item.is))
    (refused_rows (λ v. Some v.items) stations c.write.new.writer c.loop-report.writer
    (rows_of (placed_in (take c.loop-report.report-index c.args.reports.now)))
    (rows_in (placed_report c.report-item.result))
    (rows_of (placed_in (drop (c.loop-report.report-index + 1) c.args.reports.now))) why c.loop-report.invariant
    c.in_err-write_rows.ensures.err) in
    search (rules, told)

-- the writer has the whole table
pub returns-clause-ok : goal.returns-clause-ok
returns-clause-ok c =
    let stations = option_map (λ s. s.now) c.args.stations in
    table_is (λ v. Some v.items) stations c.write.new.writer c.loop-report.writer
    (rows_of (placed_in c.args.reports.now)) c.in_ok-text_of.field-0.items
    (subst (λ (names : Fields). HasWritten (λ v. Some v.items) c.write.new.writer (table_text (names ∷ [])))
    c.in_ok-names.ensures (c.in_ok-write.ensures [] c.new_writer-writer.ensures))
    (subst (λ (rs : List PlacedReport). HasWrittenRows (λ v. Some v.items) stations c.write.new.writer
    c.loop-report.writer (rows_of (placed_in rs)))
    (take_all c.loop-report.report-index c.args.reports.now c.loop-report-test.false) c.loop-report.invariant)
    c.in_ok-text_of.ensures

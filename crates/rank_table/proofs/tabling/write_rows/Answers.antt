use Rattle.std.proofs.Common.{◌∙◌, Option, Some, ap, option_map, rules}
use Rattle.csv.specs.Records.{Row as ByteRow, fields_of}
use Rattle.rank_table.specs.Reports.{placed_report}
use Rattle.rank_table.specs.Tables.{if_listed}
use Rattle.rank_table.proofs.RowsOfReports.{here, made_here, next_written, row_refused}
use Rattle.rank_table.proofs.Written.{no_rows}
use Rattle.rank_table.proofs.tabling.write_rows.Goals as goal

-- no row was written
pub loop-place-init : goal.loop-place-init
loop-place-init c = no_rows (λ v. Some v.items) (option_map (λ s. s.now) c.args.stations) c.args.writer.now

-- the station of a row isn't listed
pub returns-in_default-clause-err : goal.returns-in_default-clause-err
returns-in_default-clause-err c =
    let stations = option_map (λ s. s.now) c.args.stations in
    let p = placed_report c.args.report.now in
    let rows = c.args.report.now.report.rows.items in
    let below = rw c.deref-row-items.ensures.value at c.loop-place-test.true in
    let is = rw c.deref-row-items.ensures.value at c.row-item.is in
    let made = made_here p rows c.loop-place.place c.row-item.result below is stations _ _ _ _
    (c.as_str.ensures.value ∙ c.in_ok-text.ensures) c.score.ensures.score c.in_ok-fields.ensures.fields
    c.in_ok-fields-2.ensures in
    row_refused p rows c.loop-place.place c.row-item.result below is stations (λ v. Some v.items) c.args.writer.now
    c.loop-place.writer c.loop-place.invariant _
    (made ∙ ap (λ (o : Option ByteRow). if_listed (here p rows c.loop-place.place c.row-item.result below is)
    (option_map fields_of o)) c.in_default.is)

-- one row more was written
pub loop-place-preserved : goal.loop-place-preserved
loop-place-preserved c =
    let stations = option_map (λ s. s.now) c.args.stations in
    let p = placed_report c.args.report.now in
    let rows = c.args.report.now.report.rows.items in
    let below = rw c.deref-row-items.ensures.value at c.loop-place-test.true in
    let is = rw c.deref-row-items.ensures.value at c.row-item.is in
    let made = made_here p rows c.loop-place.place c.row-item.result below is stations _ _ _ _
    (c.as_str.ensures.value ∙ c.in_ok-text.ensures) c.score.ensures.score c.in_ok-fields.ensures.fields
    c.in_ok-fields-2.ensures in
    next_written p rows c.loop-place.place c.row-item.result below is stations (λ v. Some v.items) c.args.writer.now
    c.loop-place.writer c.loop-place.invariant c.write.new.writer (fields_of c.in-Some.fields)
    (made ∙ ap (λ (o : Option ByteRow). if_listed (here p rows c.loop-place.place c.row-item.result below is)
    (option_map fields_of o)) c.in-Some.is)
    (search (rules, c.fields.view_is, c.in_ok-write.ensures))

use Rattle.std.proofs.Common.{◌≡◌, ◌∙◌, List, Option, ℕ, map, option_map, ap, subst, sym}
use Rattle.std.proofs.lemmas.Result.{err_from_is_err_and}
use Rattle.std.specs.List.{AllByRecursion}
use Rattle.std.specs.Prelude.{Ok}
use Rattle.ghcn_files.specs.declared.station.Station.{Station}
use Rattle.rank_table.specs.declared.placed.PlacedReport.{PlacedReport}
use Rattle.rank_table.specs.Laws.{IsThere}
use Rattle.rank_table.specs.Reading.{reports_from}
use Rattle.rank_table.specs.Reports.{AreReportsOf, placed_in, texts_in}
use Rattle.rank_table.specs.Tables.{rows_of}
use Rattle.extremes.specs.Tables.{listed_if_any}
use Rattle.extremes.proofs.ReportsRead.{bad-row, bad-text, refused-list, refused-rows, refused-texts}
use Rattle.extremes.proofs.table.table_texts.Goals as goal

-- the table is that of the reports that the texts hold
pub returns-clause-ok : goal.returns-clause-ok
returns-clause-ok c =
    let same : texts_in c.as_slice.result.now ≡ map (λ t. t.items) c.args.texts.now
    = ap texts_in c.as_slice.ensures.value ∙ c.in_ok-texts.ensures in
    record {
      list = option_map (λ s. s.now) c.as_ref.result;
      listed = subst (λ (l : Option (List Station)). listed_if_any (option_map (λ t. t.now) c.args.stations) ≡ Ok l)
          (sym c.as_ref.ensures.value) c.in_ok-stations.ensures.ok;
      reports = placed_in c.as_slice-2.result.now;
      held = subst (λ (ts : List (List ℕ)). AreReportsOf ts (placed_in c.as_slice-2.result.now)) same
          (subst (λ (rs : List PlacedReport). AreReportsOf (texts_in c.as_slice.result.now) (placed_in rs))
          (sym c.as_slice-2.ensures.value) c.in_ok-reports.ensures.held);
      table = c.in_ok-bytes.ensures.ok;
      back = c.in_ok-bytes.ensures.back;
    }

-- the station list has an error
pub returns-in_err-stations-clause-err : goal.returns-in_err-stations-clause-err
returns-in_err-stations-clause-err c =
    let p = err_from_is_err_and c.from_residual.result c.from_residual.ensures.1 in
    rw (p.1, p.2) (refused-list (option_map (λ t. t.now) c.args.stations) (map (λ t. t.items) c.args.texts.now)
    c.in_err-stations.field-0.0 c.in_err-stations.ensures.err)

-- or a text has
pub returns-in_err-reports-clause-err : goal.returns-in_err-reports-clause-err
returns-in_err-reports-clause-err c =
    let same : texts_in c.as_slice.result.now ≡ map (λ t. t.items) c.args.texts.now
    = ap texts_in c.as_slice.ensures.value ∙ c.in_ok-texts.ensures in
    let p = err_from_is_err_and c.from_residual-in_err-reports.result c.from_residual-in_err-reports.ensures.1 in
    rw (p.1, p.2) (refused-texts (option_map (λ t. t.now) c.args.stations) _ (texts_in c.as_slice.result.now)
    (map (λ t. t.items) c.args.texts.now) c.in_err-reports.field-0.0 c.in_ok-stations.ensures.ok same
    c.in_err-reports.ensures.err)

-- at its first bad line
pub returns-in_err-reports-clause-wrong : goal.returns-in_err-reports-clause-wrong
returns-in_err-reports-clause-wrong c =
    let same : texts_in c.as_slice.result.now ≡ map (λ t. t.items) c.args.texts.now
    = ap texts_in c.as_slice.ensures.value ∙ c.in_ok-texts.ensures in
    let p = err_from_is_err_and c.from_residual-in_err-reports.result c.from_residual-in_err-reports.ensures.1 in
    rw (p.1, p.2) (bad-text (option_map (λ t. t.now) c.args.stations) (texts_in c.as_slice.result.now)
    (map (λ t. t.items) c.args.texts.now) c.in_err-reports.field-0.0 same c.in_err-reports.ensures.wrong)

-- or a row's station isn't listed
pub returns-in_err-bytes-clause-err : goal.returns-in_err-bytes-clause-err
returns-in_err-bytes-clause-err c =
    let same : texts_in c.as_slice.result.now ≡ map (λ t. t.items) c.args.texts.now
    = ap texts_in c.as_slice.ensures.value ∙ c.in_ok-texts.ensures in
    let p = err_from_is_err_and c.from_residual-in_err-bytes.result c.from_residual-in_err-bytes.ensures.1 in
    rw (p.1, p.2) (refused-rows (option_map (λ t. t.now) c.args.stations) (option_map (λ s. s.now) c.as_ref.result)
    (texts_in c.as_slice.result.now) (map (λ t. t.items) c.args.texts.now) (placed_in c.as_slice-2.result.now)
    c.in_err-bytes.field-0.0
    (subst (λ (l : Option (List Station)). listed_if_any (option_map (λ t. t.now) c.args.stations) ≡ Ok l)
    (sym c.as_ref.ensures.value) c.in_ok-stations.ensures.ok)
    same
    (subst (λ (rs : List PlacedReport). reports_from 1 (texts_in c.as_slice.result.now) ≡ Ok (placed_in rs))
    (sym c.as_slice-2.ensures.value) c.in_ok-reports.ensures.ok)
    c.in_err-bytes.ensures.err)

-- which is the first of those rows
pub returns-in_err-bytes-clause-wrong : goal.returns-in_err-bytes-clause-wrong
returns-in_err-bytes-clause-wrong c =
    let lent = texts_in c.as_slice.result.now in
    let same : lent ≡ map (λ t. t.items) c.args.texts.now = ap texts_in c.as_slice.ensures.value ∙ c.in_ok-texts.ensures in
    let p = err_from_is_err_and c.from_residual-in_err-bytes.result c.from_residual-in_err-bytes.ensures.1 in
    rw (p.1, p.2) (bad-row (option_map (λ t. t.now) c.args.stations) (option_map (λ s. s.now) c.as_ref.result) lent
    (map (λ t. t.items) c.args.texts.now) (placed_in c.as_slice-2.result.now) c.in_err-bytes.field-0.0
    (subst (λ (l : Option (List Station)). listed_if_any (option_map (λ t. t.now) c.args.stations) ≡ Ok l)
    (sym c.as_ref.ensures.value) c.in_ok-stations.ensures.ok)
    same
    (subst (λ (rs : List PlacedReport). AreReportsOf lent (placed_in rs)) (sym c.as_slice-2.ensures.value)
    c.in_ok-reports.ensures.held)
    (subst (λ (rs : List PlacedReport). AllByRecursion (IsThere lent) (rows_of (placed_in rs)))
    (sym c.as_slice-2.ensures.value) c.in_ok-reports.ensures.there)
    c.in_err-bytes.ensures.wrong)

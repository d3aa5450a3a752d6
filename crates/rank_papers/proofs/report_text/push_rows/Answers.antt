use Rattle.std.proofs.Common.{◌≡◌, ◌+◌, List, ℕ, Some, sym, ◌∙◌, ap, subst}
use Rattle.std.specs.Option.{option_copied}
use Rattle.std.specs.List.{find}
use Rattle.ghcn_files.specs.Meaning.Listed.{is_station_of}
use Rattle.rank_papers.proofs.ReportRows.{HasRows, HasRows-more}
use Rattle.rank_papers.proofs.report_text.push_rows.Goals as goal

-- the row of one candidate more
pub loop-place-preserved : goal.loop-place-preserved
loop-place-preserved c =
    let stations = c.args.stations.now in
    let candidate = c.index-best-place.result in
    let found : find (is_station_of candidate.id) stations ≡ Some c.in-Some.station.now =
    sym c.get.ensures ∙ ap (λ o. option_copied o) c.in-Some.is in
    let before : List ℕ = c.args.paper.now.items in
    let HasMore : List ℕ → Type 0 = HasRows c.args.query.now stations c.args.best.now (c.loop-place.place + 1) before in
    subst HasMore (sym c.in_ok-push_row.ensures)
    (HasRows-more c.args.query.now stations c.args.best.now c.loop-place.place candidate c.in-Some.station.now before
    c.loop-place.paper.items c.loop-place-test.true c.index-best-place.is found c.loop-place.invariant)

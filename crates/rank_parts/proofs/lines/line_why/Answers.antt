use Rattle.rank_parts.proofs.Cited.{◌≡◌, List, map, Option, Some, sym, ap, ◌∙◌, subst, false, find, option_copied}
use Rattle.rank_parts.proofs.Cited.{is_station_of, series_of, Candidate, Named, named_in, of_rows, candidates_of}
use Rattle.rank_parts.proofs.Cited.{AreRowsWithin, rows_with, worst_of}
use Rattle.rank_parts.proofs.LineReasons.{no_series, of_own, why_is}
use Rattle.rank_parts.proofs.StationRows.{rows_within}
use Rattle.rank_parts.proofs.lines.line_why.Goals as goal

-- the station has no series
pub returns-in_default : goal.returns-in_default
returns-in_default c = let d = c.args.dataset.now in let e = c.args.line.now in
    no_series c.args.query.now d (map named_in c.args.rows.now) e
    (ap (series_of d e.id) (sym c.element.ensures.element) ∙ sym c.series.ensures
    ∙ ap (λ o. option_copied o) c.in_default.is)

-- its series isn't a morsel
pub returns-then-not-is_own : goal.returns-then-not-is_own
returns-then-not-is_own c = let d = c.args.dataset.now in let e = c.args.line.now in
    let found : find (is_station_of e.id) d.stations ≡ Some c.in-Some-get.station.now =
    ap (find (is_station_of e.id)) (sym c.stations.ensures.stations) ∙ sym c.get.ensures
    ∙ ap (λ o. option_copied o) c.in-Some-get.is in
    sym (why_is c.args.query.now d (map named_in c.args.rows.now) e c.in-Some-get.station.now
    (Some c.in-Some.series.now) false (ap (series_of d e.id) (sym c.element.ensures.element) ∙ sym c.series.ensures
    ∙ ap (λ o. option_copied o) c.in-Some.is) found (sym c.is_own.ensures ∙ c.if-not-is_own.true))

-- the rows are in order and up to the worst
pub check_line-requires : goal.check_line-requires
check_line-requires c = let rows : List Named = map named_in c.args.rows.now in
    let own : candidates_of c.as_slice.result.now ≡ of_rows (rows_with c.args.line.now.id rows) =
    ap candidates_of c.as_slice.ensures.value ∙ ap of_rows c.in_ok-own.ensures in
    subst (λ (w : Option Candidate). AreRowsWithin w (candidates_of c.as_slice.result.now))
    (sym c.worst_of-worst.ensures.worst) (subst (AreRowsWithin (worst_of c.args.query.now.k rows)) (sym own)
    (rows_within c.args.query.now rows c.args.line.now.id c.worst_of-worst.ensures.asked c.requires.seen.order
    c.requires.seen.few))

-- the first test that fails
pub returns : goal.returns
returns c = let q = c.args.query.now in let d = c.args.dataset.now in let e = c.args.line.now in
    let rows : List Named = map named_in c.args.rows.now in
    let found : find (is_station_of e.id) d.stations ≡ Some c.in-Some-get.station.now =
    ap (find (is_station_of e.id)) (sym c.stations.ensures.stations) ∙ sym c.get.ensures
    ∙ ap (λ o. option_copied o) c.in-Some-get.is in
    let own : map named_in c.as_slice.result.now ≡ rows_with e.id rows =
    ap (map named_in) c.as_slice.ensures.value ∙ c.in_ok-own.ensures in
    c.check_line.ensures.first ∙ of_own q d rows e c.in-Some-get.station.now c.in-Some.series.now _
    (map named_in c.as_slice.result.now) (option_copied c.worst_of-worst.result) c.requires.count own
    c.worst_of-worst.ensures.worst (ap (series_of d e.id) (sym c.element.ensures.element) ∙ sym c.series.ensures
    ∙ ap (λ o. option_copied o) c.in-Some.is) found (sym c.is_own.ensures ∙ c.if-not-is_own.false)

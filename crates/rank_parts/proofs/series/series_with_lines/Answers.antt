use Rattle.rank_parts.proofs.Cited.{◌≡◌, ℕ, ◌≤◌, cond, List, Option, Some, None, length, sym, ap, ◌∙◌, arith, true}
use Rattle.rank_parts.proofs.Cited.{false, Bool, false≢true, slice_get, option_copied, Station, morsels, is_own}
use Rattle.ghcn_series.proofs.SeriesPlaces.{past_end}
use Rattle.rank_parts.proofs.Walks.{walked_on, walked_all, not_listed, own_is}
use Rattle.rank_parts.proofs.series.series_with_lines.Goals as goal
use Rattle.rank_parts.proofs.series.series_with_lines.Goals.{in-Some+then-is_own+else-not-has_line, in-Some+else-is_own}
use Rattle.rank_parts.proofs.series.series_with_lines.Goals.{in_default}

-- a morsel without a line
pub returns-then-not-has_line : goal.returns-then-not-has_line
returns-then-not-has_line c =
    let q = c.args.query.now in let d = c.args.dataset.now in let st : Station = c.in-Some.station.now in
    let own : is_own q d st ≡ true =
    own_is q d st _ _ _ c.element.ensures.element c.series.ensures c.is_own.ensures ∙ c.if-is_own.true in
    let there : slice_get d.stations c.loop-place.place ≡ Some st =
    ap (λ (l : List Station). slice_get l c.loop-place.place) (sym c.stations-in-loop-place.ensures.stations)
    ∙ sym c.at.ensures ∙ ap (λ o. option_copied o) c.in-Some.is in
    ap {B = Option ℕ} (λ (b : Bool). cond b (Some (length (morsels q d))) None)
    (sym (not_listed q d c.args.lines.now c.loop-place.place st there own
    (sym c.has_line.ensures ∙ c.if-not-has_line.true)))

-- one station more
pub loop-place-preserved : goal.loop-place-preserved
loop-place-preserved c =
    let q = c.args.query.now in let d = c.args.dataset.now in let es = c.args.lines.now in
    let place = c.loop-place.place in
    let listed = ap (λ (l : List Station). slice_get l place) (sym c.stations-in-loop-place.ensures.stations)
    ∙ sym c.at.ensures in
    elim c.match-at.branch [
      | in-Some+then-is_own+else-not-has_line w ↦
          walked_on q d es c.loop-place.series place w.in-Some.station.now true c.match-at.series
          c.loop-place.invariant (listed ∙ ap (λ o. option_copied o) w.in-Some.is)
          (own_is q d w.in-Some.station.now _ _ _ w.element.ensures.element w.series.ensures w.is_own.ensures
          ∙ w.if-is_own.true) (λ t. sym w.has_line.ensures ∙ w.if-not-has_line.false) w.series-is
      | in-Some+else-is_own w ↦
          walked_on q d es c.loop-place.series place w.in-Some.station.now false c.match-at.series
          c.loop-place.invariant (listed ∙ ap (λ o. option_copied o) w.in-Some.is)
          (own_is q d w.in-Some.station.now _ _ _ w.element.ensures.element w.series.ensures w.is_own.ensures
          ∙ w.if-is_own.false) (λ t. absurd (false≢true t)) (omega (arith, w.series-is))
      | in_default w ↦
          let end = past_end d.stations place (listed ∙ ap (λ o. option_copied o) w.in_default.is) in
          let many = ap length c.stations.ensures.stations in
          absurd (omega (arith, end, many, c.len-place-end.ensures.number, c.loop-place-test.true))
    ]

-- all stations were looked at
pub returns : goal.returns
returns c = let d = c.args.dataset.now in let many = ap length c.stations.ensures.stations in
    let end : length d.stations ≤ c.loop-place.place =
    omega (arith, many, c.len-place-end.ensures.number, c.loop-place-test.false) in
    walked_all c.args.query.now d c.args.lines.now c.loop-place.series c.loop-place.place c.loop-place.invariant end

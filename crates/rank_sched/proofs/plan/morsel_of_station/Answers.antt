use Rattle.rank_sched.proofs.Cited.{List, sym, ap, ◌∙◌, option_map, Station, place_of, planned_morsel}
use Rattle.std.proofs.lemmas.Result.{IfOk-weaker}
use Rattle.rank_sched.proofs.OneStation.{measured_of, none_of_station, one_of_station}
use Rattle.rank_sched.proofs.plan.morsel_of_station.Goals as goal

-- the station isn't listed
pub returns-in_default-clause-morsel : goal.returns-in_default-clause-morsel
returns-in_default-clause-morsel c =
    none_of_station c.args.query.now c.args.dataset.now c.args.id.now c.stations.ensures.contents c.requires
    (ap (λ (sts : List Station). place_of sts c.args.id.now) (sym c.stations.ensures.stations) ∙ sym c.place.ensures
    ∙ c.in_default.is)

-- or it is
pub returns-clause-morsel : goal.returns-clause-morsel
returns-clause-morsel c =
    let q = c.args.query.now in
    let at = ap (λ (sts : List Station). place_of sts c.args.id.now) (sym c.stations.ensures.stations)
    ∙ sym c.place.ensures ∙ c.in-Some.is in
    IfOk-weaker c.measure.result _ _ (λ morsel there.
    one_of_station q c.args.dataset.now c.args.id.now c.stations.ensures.contents c.requires c.in-Some.place morsel at
    (measured_of q c.args.dataset.now c.in-Some.place (option_map planned_morsel morsel) there)) c.measure.ensures

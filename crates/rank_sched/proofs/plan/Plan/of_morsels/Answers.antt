use Rattle.rank_sched.proofs.Cited.{◌∙◌}
use Rattle.rank_sched.proofs.Measures.{found_of_stations}
use Rattle.rank_sched.proofs.plan.Plan.of_morsels.Goals as goal

-- the morsels that were found are those of the stations
pub in_turn-requires-clause-morsels : goal.in_turn-requires-clause-morsels
in_turn-requires-clause-morsels c =
    c.requires ∙ found_of_stations c.args.query.now c.args.dataset.now c.args.dataset.now.stations

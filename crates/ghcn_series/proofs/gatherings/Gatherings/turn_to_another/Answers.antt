use Rattle.ghcn_series.proofs.HeldStations.{turned-after}
use Rattle.ghcn_series.proofs.gatherings.Gatherings.turn_to_another.Goals as goal

-- the other stations have what they had
pub returns-clause-turns : goal.returns-clause-turns
returns-clause-turns c =
    rw c.go_to.ensures.same (turned-after c.args.place _ _ _ c.in_ok-settle.ensures c.in_ok-open.ensures.opens)

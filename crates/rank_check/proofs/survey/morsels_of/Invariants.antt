use Rattle.std.proofs.Common.{◌≡◌, take, map}
use Rattle.std.specs.List.{filter_map}
use Rattle.rank_scores.specs.Morsels.{morsel_at}
use Rattle.rank_check.proofs.survey.morsels_of.Given as goal

-- the morsels of the stations so far
abbrev pub invariant-loop-place : goal.invariant-loop-place
invariant-loop-place l =
    map (λ s. s.now) l.all.items ≡ filter_map (morsel_at l.query l.dataset) (take l.place l.dataset.stations)

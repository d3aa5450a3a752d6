use Rattle.std.proofs.Common.{◌≡◌, take}
use Rattle.std.specs.List.{count_by}
use Rattle.ghcn_description.specs.Steps.{has_mark}
use Rattle.ghcn_description.proofs.elements.series_at.Given as goal

-- the stations so far that are marked
abbrev pub invariant-loop-marks : goal.invariant-loop-marks
invariant-loop-marks l = l.series ≡ count_by (has_mark l.at) (take l.marks-index l.with_days)

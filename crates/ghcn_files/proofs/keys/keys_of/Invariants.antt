use Rattle.std.proofs.Common.{◌≡◌, take}
use Rattle.ghcn_files.specs.KeptStations.{keys_from}
use Rattle.ghcn_files.proofs.keys.keys_of.Given as goal

-- the keys are those of the stations so far
abbrev pub invariant-loop-station : goal.invariant-loop-station
invariant-loop-station l = l.keys.items ≡ keys_from 0 (take l.station-index l.list)

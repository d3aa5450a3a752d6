use Rattle.std.proofs.Common.{ap, ◌∙◌, arith}
use Rattle.std.proofs.lemmas.List.{take_all}
use Rattle.ghcn_files.specs.KeptStations.{keys_from}
use Rattle.ghcn_files.proofs.JoinedKeys.{few_keys, keys_more}
use Rattle.ghcn_files.proofs.keys.keys_of.Goals as goal

-- there is room for one key more
pub push_key-requires : goal.push_key-requires
push_key-requires c =
    few_keys c.args.list.now c.loop-station.keys.items c.loop-station.station-index c.loop-station-test.true c.requires
    c.loop-station.invariant

-- one station more has its key
pub loop-station-preserved : goal.loop-station-preserved
loop-station-preserved c =
    keys_more c.args.list.now c.loop-station.keys.items c.push_key.new.keys.items c.loop-station.station-index _
    c.loop-station-test.true c.loop-station.invariant c.in_ok-push_key.ensures

-- all stations have theirs
pub returns : goal.returns
returns c =
    c.loop-station.invariant
    ∙ ap (keys_from 0) (take_all c.loop-station.station-index c.args.list.now (omega (arith, c.loop-station-test.false)))

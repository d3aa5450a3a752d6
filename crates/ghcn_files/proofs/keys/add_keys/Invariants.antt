use Rattle.std.proofs.Common.{◌≡◌, ◌++◌, map, take}
use Rattle.ghcn_files.specs.KeptStations.{later}
use Rattle.ghcn_files.proofs.keys.add_keys.Given as goal

-- the next keys so far come after the others
abbrev pub invariant-loop-key : goal.invariant-loop-key
invariant-loop-key l = l.keys.items ≡ l.fn.keys.items ++ map (later l.count) (take l.key-index l.next)

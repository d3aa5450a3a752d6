use Rattle.std.proofs.Common.{◌≡◌, map}
use Rattle.std.specs.Prelude.{filter, string_bytes}
use Rattle.rank_input.specs.Named.{is_daily, below}
use Rattle.rank_input.proofs.named.daily_paths.Given as goal

-- the paths of the daily files so far
abbrev pub invariant-loop-name : goal.invariant-loop-name
invariant-loop-name l = map string_bytes l.paths.items ≡ map (below l.folder) (filter is_daily (map (λ y. y.now) l.yielded))

use Rattle.std.proofs.Common.{◌≡◌, ℕ, List, Ok}
use Rattle.std.specs.List.{AllByRecursion}
use Rattle.ghcn_files.specs.Listed.{listed}
use Rattle.rank_input.specs.Shares.{TakesShare}
use Rattle.rank_input.proofs.claimed.take_claims.Given as goal

-- what was taken so far is of the shares at its places
abbrev pub invariant-loop : goal.invariant-loop
invariant-loop g l = (text : List ℕ) → listed text ≡ Ok l.list → AllByRecursion
    (TakesShare g.L.LineReader.has_read (g.A.Archive.bytes_of l.archive) (g.A.Archive.opens l.archive) l.keep text l.shares)
    l.taken.items

use Rattle.std.proofs.Common.{◌≡◌, ℕ, List, Ok, take}
use Rattle.std.specs.Prelude.{IfNone, IfSome}
use Rattle.std.specs.List.{AllByRecursion}
use Rattle.ghcn_files.specs.Listed.{listed}
use Rattle.rank_input.specs.Shares.{paths_of, TakesShare, TakesWhole}
use Rattle.rank_input.proofs.claimed.take_claimed.Given as goal

-- the shares up to a place are joined, and what else was taken is of the shares at its places
abbrev pub invariant-loop-place : goal.invariant-loop-place
invariant-loop-place g l = record {
  paths : paths_of l.shares.items ≡ l.paths;
  none : IfNone l.all (l.place ≡ 0);
  each : (text : List ℕ) → listed text ≡ Ok l.list → AllByRecursion
      (TakesShare g.L.LineReader.has_read (g.A.Archive.bytes_of l.archive) (g.A.Archive.opens l.archive) l.fn.keep text
      l.shares.items) l.taken.items;
  joined : (text : List ℕ) → listed text ≡ Ok l.list → IfSome l.all
      (TakesWhole g.L.LineReader.has_read (g.A.Archive.bytes_of l.archive) (g.A.Archive.opens l.archive) l.fn.keep text
      (paths_of (take l.place l.shares.items)));
}

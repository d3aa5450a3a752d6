use Rattle.ghcn_series.proofs.Cited.{◌≡◌, length, AreExtremesOf}
use Rattle.ghcn_series.proofs.columns.extremes_of.Given as goal

-- the blocks so far have theirs
abbrev pub invariant-loop-place : goal.invariant-loop-place
invariant-loop-place l = record {
  size : length l.extremes.items ≡ l.place;
  each : AreExtremesOf l.words l.values l.extremes.items;
}

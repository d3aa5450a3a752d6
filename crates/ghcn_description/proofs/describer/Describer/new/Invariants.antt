use Rattle.std.proofs.Common.{◌≡◌, ◌≤◌, ◌∷◌, [], false, length}
use Rattle.std.specs.Prelude.{replicate}
use Rattle.ghcn_description.proofs.describer.Describer.new.Given as goal

-- that many stations have no usable day
abbrev pub invariant-loop : goal.invariant-loop
invariant-loop l = record {
  many : l.count ≡ length l.fn.stations;
  within : l.counter ≤ l.count;
  marks : l.with_days.items ≡ replicate l.counter (false ∷ false ∷ false ∷ false ∷ false ∷ []);
}

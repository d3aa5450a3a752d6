use Rattle.std.proofs.Common.{◌≡◌, ◌≤◌, ◌<◌, ◌*◌, ℕ, get_or, pos}
use Rattle.ghcn_files.specs.Rows.{value_or_missing}
use Rattle.ghcn_files.proofs.row.values_in.Given as goal

-- the values so far, and the last ones
abbrev pub invariant-loop-part : goal.invariant-loop-part
invariant-loop-part l = record {
  first : (j : ℕ) → j < 4 * l.part → get_or l.values j (pos 0) ≡ value_or_missing l.line j;
  last : (j : ℕ) → 27 ≤ j → j < 31 → get_or l.values j (pos 0) ≡ value_or_missing l.line j;
}

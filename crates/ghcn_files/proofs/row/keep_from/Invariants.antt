use Rattle.std.proofs.Common.{◌≡◌, ◌≤◌, ℕ, get_or, pos}
use Rattle.ghcn_files.specs.Rows.{value_from}
use Rattle.ghcn_files.proofs.Rows.{HasFirst}
use Rattle.ghcn_files.proofs.row.keep_from.Given as goal

-- the days so far have their values, and those after them what was there
abbrev pub invariant-loop-place : goal.invariant-loop-place
invariant-loop-place l = record {
  row : HasFirst (value_from l.least l.days l.initial.values) l.place l.word l.values;
  rest : (j : ℕ) → l.place ≤ j → get_or l.values j (pos 0) ≡ get_or l.initial.values j (pos 0);
}

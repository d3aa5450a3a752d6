use Rattle.std.proofs.Common.{◌≡◌, ◌+◌, ◌-◌, ◌*◌, true, length}
use Rattle.ghcn_fields.specs.FieldForms.{are_clear}
use Rattle.ghcn_files.proofs.Readings.{tests_from}
use Rattle.ghcn_files.proofs.row.has_bad_value_in.Given as goal

-- if all lanes are 0, the tests of the values so far are passed
abbrev pub invariant-loop-pair : goal.invariant-loop-pair
invariant-loop-pair l = record {
  many : length l.bad ≡ 16;
  passed : are_clear l.bad ≡ true → tests_from l.line 1 31 ≡ tests_from l.line (1 + 2 * l.pair) (31 - 2 * l.pair);
}

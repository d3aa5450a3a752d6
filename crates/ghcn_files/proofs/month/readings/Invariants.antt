use Rattle.std.proofs.Common.{◌≡◌, ◌+◌, ◌-◌, length, take, map}
use Rattle.std.specs.List.{range_with_len}
use Rattle.ghcn_files.specs.Months.{reading}
use Rattle.ghcn_files.proofs.Readings.{tests_from}
use Rattle.ghcn_files.proofs.month.readings.Given as goal

-- the days so far are read, and their tests are passed
abbrev pub invariant-loop-day : goal.invariant-loop-day
invariant-loop-day l = record {
  many : length l.days ≡ 31;
  read : take l.day l.days ≡ map (reading l.line) (range_with_len 1 l.day);
  passed : tests_from l.line 1 31 ≡ tests_from l.line (1 + l.day) (31 - l.day);
}

use Rattle.std.proofs.Common.{◌≡◌}
use Rattle.ghcn_files.proofs.FlaggedDays.{flagged_within}
use Rattle.ghcn_files.proofs.flags.flagged_by_day.Given as goal

-- the values so far are counted
abbrev pub invariant-loop-day : goal.invariant-loop-day
invariant-loop-day l = l.count ≡ flagged_within l.days l.line l.day

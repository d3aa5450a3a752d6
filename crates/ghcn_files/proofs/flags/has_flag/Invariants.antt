use Rattle.std.proofs.Common.{◌≡◌, ◌*◌, length, min}
use Rattle.ghcn_files.specs.Flags.{HasNoFlag}
use Rattle.ghcn_files.proofs.FlagLanes.{AreZero}
use Rattle.ghcn_files.proofs.flags.has_flag.Given as goal

-- if the lanes are 0, no day so far has a flag
abbrev pub invariant-loop-part : goal.invariant-loop-part
invariant-loop-part l = record {
  many : length l.others ≡ 32;
  none : AreZero l.others → HasNoFlag l.line (min (4 * l.part) 31);
}

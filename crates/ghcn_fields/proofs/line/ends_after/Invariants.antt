use Rattle.std.proofs.Common.{◌≡◌, ◌*◌, ◌-◌, true, length}
use Rattle.ghcn_fields.specs.Lines.{are_above}
use Rattle.ghcn_fields.proofs.LineFeeds.{AreAbove}
use Rattle.ghcn_fields.proofs.line.ends_after.Given as goal

-- if all lanes are above a line feed, so are the last bytes before the end and those so far
abbrev pub invariant-loop-part : goal.invariant-loop-part
invariant-loop-part l = record {
  many : length l.least ≡ 16;
  last : are_above l.least ≡ true → AreAbove l.text (l.columns - 16) l.columns;
  so_far : are_above l.least ≡ true → AreAbove l.text 0 (16 * l.part);
}

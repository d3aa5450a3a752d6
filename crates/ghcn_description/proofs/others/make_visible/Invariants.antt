use Rattle.std.proofs.Common.{◌≡◌, length, take, drop, map}
use Rattle.ghcn_description.specs.Lines.{shown}
use Rattle.ghcn_description.proofs.others.make_visible.Given as goal

-- the bytes so far are visible, and the others as they were
abbrev pub invariant-loop-byte : goal.invariant-loop-byte
invariant-loop-byte l = record {
  many : length l.byte-items ≡ length l.fn.text;
  printed : take l.byte-index l.byte-items ≡ map shown (take l.byte-index l.fn.text);
  left : drop l.byte-index l.byte-items ≡ drop l.byte-index l.fn.text;
}

use Rattle.std.proofs.Common.{◌≡◌, length, take, drop, map}
use Rattle.ghcn_files.specs.Meaning.StationLines.{printable}
use Rattle.ghcn_files.proofs.station.make_printable.Given as goal

-- the bytes so far are printable, and the others as they were
abbrev pub invariant-loop-byte : goal.invariant-loop-byte
invariant-loop-byte l = record {
  many : length l.byte-items ≡ length l.fn.text;
  printed : take l.byte-index l.byte-items ≡ map printable (take l.byte-index l.fn.text);
  left : drop l.byte-index l.byte-items ≡ drop l.byte-index l.fn.text;
}

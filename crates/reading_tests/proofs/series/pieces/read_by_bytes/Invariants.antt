use Rattle.ghcn_series.specs.Cut.{HasFedSome}
use Rattle.ghcn_series.specs.Gathered.{HasReadByRows}
use Rattle.reading_tests.proofs.series.pieces.read_by_bytes.Given as goal

-- the reader can be fed more
abbrev pub invariant-loop-byte : goal.invariant-loop-byte
invariant-loop-byte l = HasFedSome HasReadByRows l.reader

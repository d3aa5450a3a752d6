use Rattle.ghcn_series.specs.Cut.{HasFedSome}
use Rattle.ghcn_series.specs.Gathered.{HasReadByRows}
use Rattle.reading_tests.proofs.growths.fed.Given as goal

-- the reader can be fed more
abbrev pub invariant-loop-byte : goal.invariant-loop-byte
invariant-loop-byte l = HasFedSome HasReadByRows l.reader

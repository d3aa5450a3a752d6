use Rattle.ghcn_series.specs.Cut.{HasFedSome}
use Rattle.ghcn_series.specs.Gathered.{HasReadByRows}
use Rattle.reading_tests.proofs.series.pieces.with_files.Given as goal

-- the reader can be fed more
abbrev pub invariant-loop : goal.invariant-loop
invariant-loop l = HasFedSome HasReadByRows l.reader

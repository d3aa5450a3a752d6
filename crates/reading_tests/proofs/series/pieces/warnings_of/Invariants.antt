use Rattle.ghcn_series.specs.Cut.{HasFedSome}
use Rattle.ghcn_series.specs.Gathered.{HasReadByRows}
use Rattle.reading_tests.proofs.series.pieces.warnings_of.Given as goal

-- the reader can be fed more
abbrev pub invariant-loop-file : goal.invariant-loop-file
invariant-loop-file l = HasFedSome HasReadByRows l.reader

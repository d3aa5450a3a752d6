use Rattle.ghcn_files.specs.Elements.{everything}
use Rattle.ghcn_series.specs.Cut.{HasFed}
use Rattle.ghcn_series.specs.Fed.{Files}
use Rattle.ghcn_series.specs.Gathered.{HasReadByRows}
use Rattle.reading_tests.proofs.series.joins.fed.Given as goal

-- the reader was fed some files
abbrev pub invariant-loop-file : goal.invariant-loop-file
invariant-loop-file l =
    (files : Files) × HasFed HasReadByRows l.reader
    (record { keep = everything; stations = l.fn.stations; files = files })

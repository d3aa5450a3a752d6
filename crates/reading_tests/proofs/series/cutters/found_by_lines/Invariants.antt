use Rattle.ghcn_series.specs.Cut.{HasFedSome}
use Rattle.ghcn_series.specs.Gathered.{HasReadFor}
use Rattle.reading_tests.specs.declared.series.cutters.Finder.{Finder}
use Rattle.reading_tests.proofs.series.cutters.found_by_lines.Given as goal

-- the cutter can be fed more
abbrev pub invariant-loop-file : goal.invariant-loop-file
invariant-loop-file l = HasFedSome (λ (finder : Finder). HasReadFor finder.reader) l.cutter

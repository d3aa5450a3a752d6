use Rattle.ghcn_series.specs.Cut.{HasFedSome}
use Rattle.ghcn_series.specs.Gathered.{HasReadFor}
use Rattle.reading_tests.specs.declared.series.cutters.Finder.{Finder}
use Rattle.reading_tests.proofs.series.cutters.with_files.Given as goal

-- the cutter can be fed more
abbrev pub invariant-loop : goal.invariant-loop
invariant-loop l = HasFedSome (λ (finder : Finder). HasReadFor finder.reader) l.cutter

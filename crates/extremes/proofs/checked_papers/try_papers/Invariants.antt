use Rattle.rank_input.specs.Feeding.{AreOpened}
use Rattle.extremes.specs.PaperPaths.{all_paths}
use Rattle.extremes.proofs.checked_papers.try_papers.Given as goal

-- the reports and the certificates of the queries so far are opened
abbrev pub invariant-loop-at : goal.invariant-loop-at
invariant-loop-at g l = AreOpened (g.A.Archive.opens l.archive) (all_paths l.folder 1 l.at)

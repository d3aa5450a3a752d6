use Rattle.std.proofs.Common.{false}
use Rattle.std.specs.List.{AllByRecursion}
use Rattle.extremes.specs.PapersFolder.{paper_paths}
use Rattle.extremes.proofs.papers_folder.first_there.Given as goal

-- no file of the queries so far is there
abbrev pub invariant-loop-at : goal.invariant-loop-at
invariant-loop-at g l = AllByRecursion (λ path. g.T.Target.exists l.target path false) (paper_paths l.folder 1 l.at)

use Rattle.std.proofs.Common.{◌≡◌, take}
use Rattle.rank_input.specs.Feeding.{AreOpened}
use Rattle.extremes.specs.JudgeEach.{HasVerdictsOf, JudgesOver}
use Rattle.extremes.specs.PaperPaths.{all_paths}
use Rattle.extremes.proofs.judge_each.verdicts_of_each.Given as goal

-- the verdicts are those on the queries so far, which are counted
abbrev pub invariant-loop-query : goal.invariant-loop-query
invariant-loop-query g l = record {
  so_far : HasVerdictsOf (JudgesOver l.papers.part (g.A.Archive.bytes_of l.archive) (g.A.Archive.opens l.archive)
      l.papers.folder.now l.dataset) (take l.query-index l.queries) l.verdicts;
  opened : AreOpened (g.A.Archive.opens l.archive) (all_paths l.papers.folder.now 1 l.query-index);
  counted : l.number ≡ l.query-index;
}

use Rattle.rank_blocks.proofs.RangeRuns.{IsTold}
use Rattle.rank_blocks.proofs.reached.longest_run.Given as goal

-- the runs up to a place are noted
abbrev pub invariant-loop-block : goal.invariant-loop-block
invariant-loop-block l = IsTold l.range l.blocks l.block-index l.runs

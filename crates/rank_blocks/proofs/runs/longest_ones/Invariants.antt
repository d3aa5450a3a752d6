use Rattle.rank_blocks.proofs.WordRuns.{AreEnds}
use Rattle.rank_blocks.proofs.runs.longest_ones.Given as goal

-- what remains are the ends of runs of this length
abbrev pub invariant-loop-length : goal.invariant-loop-length
invariant-loop-length l = AreEnds l.word l.length l.ends

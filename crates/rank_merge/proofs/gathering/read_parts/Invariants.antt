use Rattle.rank_merge.proofs.Cited.{take, AreOfParts, texts_in}
use Rattle.rank_merge.proofs.gathering.read_parts.Given as goal

-- the parts so far were read
abbrev pub invariant-loop-place : goal.invariant-loop-place
invariant-loop-place l = AreOfParts l.query (texts_in (take l.place l.parts)) l.all

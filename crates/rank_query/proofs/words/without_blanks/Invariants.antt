use Rattle.rank_query.proofs.Cited.{◌≡◌, length, after_blanks}
use Rattle.rank_query.proofs.words.without_blanks.Given as goal

-- what is left has the same bytes after its blanks
abbrev pub invariant-loop-rest : goal.invariant-loop-rest
invariant-loop-rest l = after_blanks l.rest ≡ after_blanks l.fn.text

-- and grows shorter
abbrev pub decreases-loop-rest : goal.decreases-loop-rest
decreases-loop-rest l = length l.rest

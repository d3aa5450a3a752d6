use Rattle.rank_check.proofs.Together.{AreBoth}
use Rattle.rank_check.proofs.survey.both.Given as goal

-- the rows so far have what is known from both
abbrev pub invariant-loop-place : goal.invariant-loop-place
invariant-loop-place l = AreBoth l.fn.first.rows.items l.fn.second.rows.items l.rows.items l.place

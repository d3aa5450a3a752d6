use Rattle.rank_papers.proofs.GivenRows.{HasGiven}
use Rattle.rank_papers.proofs.report_text.push_named_rows.Given as goal

-- the rows so far
abbrev pub invariant-loop-place : goal.invariant-loop-place
invariant-loop-place l = HasGiven l.query l.rows l.place l.fn.paper.items l.paper.items

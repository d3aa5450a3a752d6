use Rattle.rank_papers.proofs.ReportRows.{HasRows}
use Rattle.rank_papers.proofs.report_text.push_rows.Given as goal

-- the rows so far are those of the candidates so far
abbrev pub invariant-loop-place : goal.invariant-loop-place
invariant-loop-place l = HasRows l.query l.stations l.best l.place l.fn.paper.items l.paper.items

use Rattle.std.proofs.Common.{rules}
use Rattle.rank_papers.proofs.NamedRows.{kth_found}
use Rattle.rank_papers.proofs.rows.kth_score.Goals as goal

-- the k-th row has it
pub returns-clause-kth : goal.returns-clause-kth
returns-clause-kth c =
    let at = c.in_ok-row.ensures.lookup in
    let found = kth_found c.args.query.now.k c.k.result c.args.rows.now c.in_ok-row.row.now c.k.ensures.k at.3.0
    at.1 in
    search (rules, found)

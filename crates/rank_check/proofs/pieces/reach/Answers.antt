use Rattle.std.proofs.Common.{List, [], None, false, ap, ◌∙◌}
use Rattle.rank_scores.specs.declared.candidate.Candidate.{Candidate}
use Rattle.rank_scores.specs.Candidates.{candidates}
use Rattle.rank_check.specs.declared.pieces.Reached.{Reached}
use Rattle.rank_check.proofs.Reaching.{reached-all, missing-all}
use Rattle.rank_check.proofs.pieces.reach.Goals as goal

-- a candidate is left out if the rows haven't all that are within
pub returns-clause-left_out : goal.returns-clause-left_out
returns-clause-left_out c =
    let start : Reached = record { rows = c.args.rows; worst = c.args.worst; left_out = false; highest = None } in
    let cs : List Candidate = candidates c.args.query.now c.args.series.now in
    ap (λ r. r.left_out) (c.scan.ensures ∙ reached-all start [] cs)
    ∙ missing-all c.args.rows.now c.args.worst cs

-- and the greatest score is that of all candidates
pub returns-clause-highest : goal.returns-clause-highest
returns-clause-highest c =
    let start : Reached = record { rows = c.args.rows; worst = c.args.worst; left_out = false; highest = None } in
    let cs : List Candidate = candidates c.args.query.now c.args.series.now in
    ap (λ r. r.highest) (c.scan.ensures ∙ reached-all start [] cs)

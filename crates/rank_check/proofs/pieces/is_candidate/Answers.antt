use Rattle.std.proofs.Common.{ap, ◌∙◌, false}
use Rattle.rank_scores.specs.Candidates.{candidates}
use Rattle.rank_check.proofs.Reaching.{wanted-found}
use Rattle.rank_check.proofs.pieces.is_candidate.Goals as goal

-- it was found if it is among the candidates
pub returns : goal.returns
returns c =
    ap (λ w. w.found) c.scan.ensures
    ∙ wanted-found (record { candidate = c.args.candidate.now; found = false })
    (candidates c.args.query.now c.args.series.now)

use Rattle.extremes.proofs.RankedParts.{merged-is-ranked}
use Rattle.extremes.proofs.laws.merged_is_ranked.Goals as goal

-- the law
pub returns : goal.returns
returns c =
    merged-is-ranked c.data_are_right.ensures.held
    c.papers_are_found.ensures.report c.papers_are_found.ensures.certificate
    c.papers_are_said.ensures.report c.papers_are_said.ensures.certificate

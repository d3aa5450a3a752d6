use Rattle.rank_check.proofs.OneElement.{verdict_stays}
use Rattle.rank_check.proofs.laws.verdict_of_one_element.Goals as goal

-- by the candidates, the morsels and the k-th score
pub returns : goal.returns
returns c =
    let same = c.one_element_is_enough.ensures in verdict_stays same.candidates same.morsels same.kth

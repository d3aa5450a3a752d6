use Rattle.rank_parts.proofs.OwnLines.{verdict_stays}
use Rattle.rank_parts.proofs.laws.part_verdict_of_one_element.Goals as goal

-- by the morsels, which stay
pub returns : goal.returns
returns c = verdict_stays c.one_element_is_enough.ensures.morsels

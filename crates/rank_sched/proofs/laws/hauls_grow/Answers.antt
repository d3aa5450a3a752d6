use Rattle.rank_sched.proofs.Growing.{haul_grows, turns_grow, upward_grows}
use Rattle.rank_sched.proofs.laws.hauls_grow.Goals as goal

-- each law of a record more by its lemma
pub returns : goal.returns
returns c = record { haul = haul_grows; turns = turns_grow; upward = upward_grows }

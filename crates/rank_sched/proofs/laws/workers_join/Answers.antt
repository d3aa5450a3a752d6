use Rattle.rank_sched.proofs.Growing.{workers_join, hauls_join, stops_join, turns_join}
use Rattle.rank_sched.proofs.laws.workers_join.Goals as goal

-- each law of two groups by its lemma
pub returns : goal.returns
returns c = record { sound = workers_join; hauls = hauls_join; stopped = stops_join; turns = turns_join }

use Rattle.rank_sched.proofs.Machines.{steps_computed, one_worker, failed_stays, want_fails}
use Rattle.rank_sched.proofs.OneWay.{ends_one_way, one_list}
use Rattle.rank_sched.proofs.SoundSteps.{runs_sound}
use Rattle.rank_sched.proofs.OneList.{seen_at_most}
use Rattle.rank_sched.proofs.laws.runs_are_sound.Goals as goal

-- each law of runs by its lemma
pub returns : goal.returns
returns c = record {
  steps = steps_computed;
  choice = one_worker;
  way = ends_one_way;
  records = one_list;
  sound = runs_sound;
  seen = seen_at_most;
  memory = want_fails;
  failed = failed_stays;
}

use Rattle.rank_sched.proofs.Reached.{raised_reached, none_back}
use Rattle.rank_sched.proofs.Totals.{skips_right, skips_onwards}
use Rattle.rank_sched.proofs.Finished.{best_are_there, pool_decides}
use Rattle.rank_sched.proofs.ScanLines.{one_cause}
use Rattle.rank_sched.proofs.laws.hauls_are_right.Goals as goal

-- each law of sound hauls by its lemma
pub returns : goal.returns
returns c = record {
  raised = raised_reached;
  skips = skips_right;
  back = none_back;
  scans = one_cause;
  onwards = skips_onwards;
  best = best_are_there;
  pool = pool_decides;
}

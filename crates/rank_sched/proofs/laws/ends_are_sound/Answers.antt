use Rattle.rank_sched.proofs.Ends.{ends_sound}
use Rattle.rank_sched.proofs.Counted.{events_counted}
use Rattle.rank_sched.proofs.OneList.{records_sound, no_hauls}
use Rattle.rank_sched.proofs.SoundRecords.{hauls_of_records, of_fewer_workers}
use Rattle.rank_sched.proofs.laws.ends_are_sound.Goals as goal

-- each law of stopped runs by its lemma
pub returns : goal.returns
returns c = record {
  ends = ends_sound;
  events = events_counted;
  records = records_sound;
  hauls = hauls_of_records;
  fewer = of_fewer_workers;
  none = no_hauls;
}

use Rattle.rank_scores.proofs.Exactly.{contenders_exactly, exactly, rise, apart, bounds, each_stays, none_rivals, each_led}
use Rattle.rank_scores.proofs.laws.candidates_of_series.Goals as goal

-- the lists have the contenders and the candidates, by first day and none twice, and a bound of the list is one of each
-- candidate; of each group one is a candidate at most, and no contender lacks one that precedes it or is it
pub returns : goal.returns
returns c = record {
  contenders = λ q s asked series. contenders_exactly q s series asked;
  exactly = λ q s asked series. exactly q s series asked;
  rise = rise;
  apart = apart;
  bounds = λ q s asked series. bounds q s series asked;
  each = each_stays;
  rivals = none_rivals;
  led = each_led;
}

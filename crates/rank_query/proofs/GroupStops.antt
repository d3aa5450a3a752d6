-- Where the reading of a group stops.
use Rattle.rank_query.proofs.Cited.{[], AllByRecursion, codes, refl, subst, UnexpectedWord, Per, Station, group}
use Rattle.rank_query.proofs.Cited.{group_of}
use Rattle.rank_query.proofs.ReadingSteps.{or_fault_err}
use Rattle.rank_query.proofs.GroupWords.{per_rows}
use Rattle.rank_query.proofs.Stops.{IsWordOf, ReadsPart}
use Rattle.rank_query.proofs.PartStops.{Any, ReadsWord, part_word}

-- words that name a group, of which "station" is one
reads_group : ReadsWord Per Any group
unfolding group
reads_group = record {
  good = λ w g e. tt;
  told = λ w fault e. subst (λ f. IsWordOf f [] w) (or_fault_err (UnexpectedWord w.0) fault (group_of w.1) e).1 refl;
  sample = codes "station";
  clean = refl;
  it = Station;
  reads = refl;
}

-- a group is a part after its word
pub per_parts : AllByRecursion (λ row. ReadsPart Per Any row.1) per_rows
per_parts = (part_word reads_group, tt)

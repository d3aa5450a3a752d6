-- Groups of contenders: of each group only the best is a candidate.
use Rattle.std.specs.Prelude.{Bool, true, false, ◌&&◌, ◌==◌, ℤ}
use Rattle.ghcn_fields.specs.Meaning.Dates.{civil}
use Rattle.ghcn_files.specs.Meaning.Ids.{same_id}
use Rattle.rank_query.specs.declared.per.Per.{Per}
use Rattle.rank_query.specs.declared.per.Per.TheVariants.{Each, Station, Year}
use Rattle.rank_scores.specs.declared.candidate.Candidate.{Candidate}

-- two contenders of one station that begin on these two days belong to one group: never if there are no groups, always
-- by station, and by year if the two days are in one year
abbrev pub same_group : Per → ℤ → ℤ → Bool
same_group Each a b = false
same_group Station a b = true
same_group Year a b = (civil a).0 == (civil b).0

-- two contenders are rivals: they belong to one station and to one group, so at most one of them is a candidate
abbrev pub are_rivals : Per → Candidate → Candidate → Bool
are_rivals per a b = same_group per a.first b.first && same_id a.id b.id

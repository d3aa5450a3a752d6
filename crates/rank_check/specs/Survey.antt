-- What one pass over all data finds for the rows of a report, and for each series.
use Rattle.std.specs.Prelude.{◌≡◌, ℕ, ◌+◌, Bool, true, false, ◌||◌, if◌then◌else◌, List, [], length, map}
use Rattle.std.specs.Prelude.{Option, None, Some, ℤ, ◌≤ℤ◌}
use Rattle.std.specs.List.{AllByRecursion, flat_map}
use Rattle.std.specs.Int.{int_max}
use Rattle.std.specs.Ordering.{is_eq, is_le}
use Rattle.ghcn_fields.specs.Sorting.{greatest}
use Rattle.ghcn_series.specs.Meaning.Series.{Series}
use Rattle.ghcn_series.specs.Series.{Data}
use Rattle.ghcn_series.specs.Says.{in_64_bits}
use Rattle.rank_query.specs.Meaning.Asked.{Query}
use Rattle.rank_scores.specs.declared.candidate.Candidate.{Candidate}
use Rattle.rank_scores.specs.Candidates.{candidates}
use Rattle.rank_scores.specs.Meaning.Order.{precedes}
use Rattle.rank_scores.specs.Order.{full_cmp, rank_in}
use Rattle.rank_scores.specs.Morsels.{all_candidates, morsels}
use Rattle.rank_check.specs.declared.tally.Met.{Met}
use Rattle.rank_check.specs.declared.survey.Top.{Top}
use Rattle.rank_check.specs.declared.survey.Findings.{Findings}
use Rattle.rank_check.specs.Tests.{is_one_of}

-- ---- candidates against rows

-- a row's candidate, whether it is among some candidates, and how many of these precede it
abbrev pub met : List Candidate → Candidate → Met
met cs c = record { candidate = c; present = is_one_of cs c; ahead = in_64_bits (rank_in cs c) }

-- the same once one more candidate is among them
abbrev pub met_by : Candidate → Met → Met
met_by c m = record {
  candidate = m.candidate;
  present = m.present || is_eq (full_cmp c m.candidate);
  ahead = if precedes c m.candidate then in_64_bits (m.ahead + 1) else m.ahead;
}

-- what is known of a row from some candidates and then from others
abbrev pub met_both : Met → Met → Met
met_both m other = record {
  candidate = m.candidate;
  present = m.present || other.present;
  ahead = in_64_bits (m.ahead + other.ahead);
}

-- the greater of a score and those before it
abbrev pub raised : Option ℤ → ℤ → ℤ
raised None score = score
raised (Some highest) score = int_max highest score

-- the greatest score of some candidates, if there are any
abbrev pub top_score : List Candidate → Option ℤ
top_score cs = greatest (map (λ c. c.score) cs)

-- what contracts see of a tally: the rows, the number of all candidates, and the greatest score since it was reset
pub record Tally : Type 0 where
  pub rows : List Met
  pub count : ℕ
  pub highest : Option ℤ

-- a tally of rows with these candidates that was offered nothing
abbrev pub nothing_offered : List Candidate → Tally
nothing_offered rows = record { rows = map (met []) rows; count = 0; highest = None }

-- a tally once one more candidate was offered
abbrev pub tally_with : Tally → Candidate → Tally
tally_with t c = record {
  rows = map (met_by c) t.rows;
  count = in_64_bits (t.count + 1);
  highest = Some (raised t.highest c.score);
}

-- no row scores less than a floor, nor does the greatest score so far, of which there is one
pub record IsFloor (t : Tally) (floor : ℤ) : Type 0 where
  pub rows : AllByRecursion (λ m. floor ≤ℤ m.candidate.score) t.rows
  pub highest : ℤ
  pub known : t.highest ≡ Some highest
  pub under : floor ≤ℤ highest

-- a tally that no series was scanned for yet
abbrev pub reset : Tally → Tally
reset t = record { rows = t.rows; count = t.count; highest = None }

-- there is a last row, and the candidate doesn't come after it
abbrev pub reaches : Option Candidate → Candidate → Bool
reaches None c = false
reaches (Some last) c = is_le (full_cmp c last)

-- the candidate, or the last one if the candidate doesn't come after it
abbrev pub later : Option Candidate → Candidate → Candidate
later None c = c
later (Some last) c = if is_le (full_cmp c last) then last else c

-- no row comes after the last one
abbrev pub IsLast : Option Candidate → List Candidate → Type 0
IsLast last rows = AllByRecursion (λ c. reaches last c ≡ true) rows

-- ---- series

-- all candidates of some series
abbrev pub candidates_in : Query → List Series → List Candidate
candidates_in q ss = flat_map (candidates q) ss

-- the ID of a series, and its greatest score
abbrev pub top : Query → Series → Top
top q s = record { id = s.id; highest = top_score (candidates q s) }

-- what a scan of some series finds: of each row what their candidates say of it, how many these are, and the greatest
-- score of each series
pub record AreFoundIn (q : Query) (ss : List Series) (rows : List Candidate) (s : Findings) : Type 0 where
  pub watched : s.rows.items ≡ map (met (candidates_in q ss)) rows
  pub count : s.count ≡ in_64_bits (length (candidates_in q ss))
  pub tops : s.tops.items ≡ map (top q) ss

-- ---- all

-- what a pass over all data finds: of each row what all candidates say of it, how many they are, and each morsel's
-- greatest score by increasing ID
pub record AreFindings (q : Query) (c : Data) (rows : List Candidate) (s : Findings) : Type 0 where
  pub watched : s.rows.items ≡ map (met (all_candidates q c)) rows
  pub count : s.count ≡ in_64_bits (length (all_candidates q c))
  pub tops : s.tops.items ≡ map (top q) (morsels q c)

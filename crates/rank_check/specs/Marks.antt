-- A report's rows as marks in the order of candidates, and what they know of the candidates that were offered.
use Rattle.std.specs.Prelude.{◌≡◌, ℕ, zero, suc, ◌+◌, Bool, true, false, ◌||◌, ◌&&◌, not, if◌then◌else◌, List, []}
use Rattle.std.specs.Prelude.{◌∷◌, map, Option, None, Some, ℤ, int_le, slice_get, slice_set}
use Rattle.std.specs.List.{AllByRecursion, Contains, list_any, sum_by}
use Rattle.std.specs.List.Sorted.{IsPartitionPoint, IsSorted}
use Rattle.std.specs.Option.{option_map_or}
use Rattle.std.specs.Ordering.{is_eq}
use Rattle.ghcn_series.specs.Says.{in_64_bits}
use Rattle.rank_scores.specs.declared.candidate.Candidate.{Candidate}
use Rattle.rank_scores.specs.Meaning.Order.{precedes}
use Rattle.rank_scores.specs.Order.{full_cmp}
use Rattle.rank_check.specs.declared.tally.Met.{Met}
use Rattle.rank_check.specs.declared.tally.Mark.{Mark}
use Rattle.rank_check.specs.Survey.{IsLast, met_by}

-- the candidates of marks
abbrev pub candidates_at : List Mark → List Candidate
candidates_at marks = map (λ m. m.candidate) marks

-- a candidate's mark before any is offered
abbrev pub unmet : Candidate → Mark
unmet c = record { candidate = c; present = false; fresh = 0 }

-- the mark is the candidate's, and was offered
abbrev pub is_met_at : Candidate → Mark → Bool
is_met_at c m = m.present && is_eq (full_cmp m.candidate c)

-- the candidate has a mark that was offered
abbrev pub is_met : List Mark → Candidate → Bool
is_met marks c = list_any (is_met_at c) marks

-- what was counted at a mark, if the candidate doesn't precede it
abbrev pub passed_at : Candidate → Mark → ℕ
passed_at c m = if precedes c m.candidate then 0 else m.fresh

-- how many were counted at the marks that the candidate doesn't precede
abbrev pub passed : List Mark → Candidate → ℕ
passed marks c = sum_by (passed_at c) marks

-- what marks know of a candidate
abbrev pub known : List Mark → Candidate → Met
known marks c = record { candidate = c; present = is_met marks c; ahead = in_64_bits (passed marks c) }

-- the marks are in the order of candidates
abbrev pub AreMarksInOrder : List Mark → Type 0
AreMarksInOrder marks = IsSorted full_cmp (candidates_at marks)

-- these are marks of the rows that nothing was offered to
pub record AreUnmet (rows : List Candidate) (marks : List Mark) : Type 0 where
  pub order : AreMarksInOrder marks
  pub marked : AllByRecursion (Contains (candidates_at marks)) rows
  pub blank : marks ≡ map unmet (candidates_at marks)

-- the rows have marks in order, and none comes after the last
pub record AreMarked (last : Option Candidate) (rows : List Candidate) (marks : List Mark) : Type 0 where
  pub behind : IsLast last rows
  pub order : AreMarksInOrder marks
  pub marked : AllByRecursion (Contains (candidates_at marks)) rows

-- a mark once a candidate was offered that may be its own
abbrev pub shown_by : Candidate → Mark → Mark
shown_by c m = record {
  candidate = m.candidate;
  present = m.present || is_eq (full_cmp c m.candidate);
  fresh = m.fresh;
}

-- a mark once a candidate was counted at it
abbrev pub counted_mark : Mark → Mark
counted_mark m = record { candidate = m.candidate; present = m.present; fresh = in_64_bits (m.fresh + 1) }

-- marks once a candidate was counted at a place, if there is a mark
abbrev pub counted_at : ℕ → List Mark → List Mark
counted_at place marks = option_map_or (λ m. slice_set marks place (counted_mark m)) (slice_get marks place) marks

-- the candidate precedes those from the place on, and no other
abbrev pub IsPlace : List Candidate → Candidate → ℕ → Type 0
IsPlace cs c place = IsPartitionPoint (λ d. precedes c d ≡ false) (λ d. precedes c d ≡ true) cs place

-- there is a first mark, and the candidate precedes it
abbrev pub precedes_first : Candidate → List Mark → Bool
precedes_first c [] = false
precedes_first c (m ∷ marks) = precedes c m.candidate

-- there is a mark before the place, and it doesn't precede the candidate
abbrev pub ties_before : ℕ → List Mark → Candidate → Bool
ties_before zero marks c = false
ties_before (suc before) marks c = option_map_or (λ m. not (precedes m.candidate c)) (slice_get marks before) false

-- there is a mark before the place, it is the candidate's, and was offered
abbrev pub is_met_before : ℕ → List Mark → Candidate → Bool
is_met_before zero marks c = false
is_met_before (suc before) marks c = option_map_or (is_met_at c) (slice_get marks before) false

-- how many were counted at marks
abbrev pub counted : List Mark → ℕ
counted marks = sum_by (λ m. m.fresh) marks

-- there is a last row, and the score isn't lower than its own
abbrev pub may_reach : Option Candidate → ℤ → Bool
may_reach None score = false
may_reach (Some last) score = int_le last.score score

-- marks of the same candidates, of each of which is known what one more candidate makes of what was known
pub record Meets (c : Candidate) (old new : List Mark) : Type 0 where
  pub same : candidates_at new ≡ candidates_at old
  pub met : (row : Candidate) → Contains (candidates_at old) row → known new row ≡ met_by c (known old row)

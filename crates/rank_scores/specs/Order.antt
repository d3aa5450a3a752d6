-- The best of some candidates by their ranks, an order without ties, and bounds.
use Rattle.std.specs.Prelude.{ℕ, zero, suc, Bool, false, ◌&&◌, ◌==◌, List, Option, None, Some, ℤ, int_lt}
use Rattle.std.specs.List.{count_by, find, filter_map, range_with_len, IsDistinct}
use Rattle.std.specs.Option.{option_map}
use Rattle.std.specs.declared.cmp.Ordering.{Ordering}
use Rattle.std.specs.Ordering.{int_cmp, int_eq, on, then_cmp}
use Rattle.ghcn_files.specs.Meaning.Ids.{same_id}
use Rattle.rank_scores.specs.declared.candidate.Candidate.{Candidate}
use Rattle.rank_scores.specs.Meaning.Order.{rank_cmp, precedes}

-- the order of candidates, and if two tie in it, the earlier last day comes first
abbrev pub full_cmp : Candidate → Candidate → Ordering
full_cmp = then_cmp rank_cmp (on (λ c. c.last) int_cmp)

-- how many of a set precede a candidate
abbrev pub rank_in : List Candidate → Candidate → ℕ
rank_in all c = count_by (λ d. precedes d c) all

-- the candidate of a rank
abbrev pub of_rank : List Candidate → ℕ → Option Candidate
of_rank all r = find (λ c. rank_in all c == r) all

-- those of rank below k, in order of rank
abbrev pub best : ℕ → List Candidate → List Candidate
best k all = filter_map (of_rank all) (range_with_len 0 k)

-- the score of the k-th best, if the set has k candidates; there is no 0-th
abbrev pub kth_score : ℕ → List Candidate → Option ℤ
kth_score zero all = None
kth_score (suc rank) all = option_map (λ c. c.score) (of_rank all rank)

-- there is a score, and the number is strictly below it
abbrev pub bound_is_below : Option ℤ → ℤ → Bool
bound_is_below None b = false
bound_is_below (Some score) b = int_lt b score

-- two candidates belong to one station and begin on one day
abbrev pub begin_alike : Candidate → Candidate → Bool
begin_alike a b = same_id a.id b.id && int_eq a.first b.first

-- no two of these candidates belong to one station and begin on one day
abbrev pub AreApart : List Candidate → Type 0
AreApart all = IsDistinct begin_alike all

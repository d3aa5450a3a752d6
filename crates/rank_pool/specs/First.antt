-- Candidates in their order, the first of them, and how many of them score above a number.
use Rattle.std.specs.Prelude.{ℕ, zero, suc, Bool, List, Option, None, ℤ, take, slice_get, int_lt, count_by}
use Rattle.std.specs.Option.{option_map}
use Rattle.std.specs.Ordering.{is_le}
use Rattle.ghcn_fields.specs.Sorting.{sorted_by}
use Rattle.rank_scores.specs.declared.candidate.Candidate.{Candidate}
use Rattle.rank_scores.specs.Order.{full_cmp}

-- a is listed before b, or is the same
abbrev pub comes_first : Candidate → Candidate → Bool
comes_first a b = is_le (full_cmp a b)

-- candidates in the order in which they are listed, each as often as it is in the list
abbrev pub in_order : List Candidate → List Candidate
in_order xs = sorted_by comes_first xs

-- the first k of some candidates in their order, and all of them if there are fewer
abbrev pub first : ℕ → List Candidate → List Candidate
first k xs = take k (in_order xs)

-- the score of the k-th of some candidates in their order, if there are k of them; there is no 0-th
abbrev pub kth : ℕ → List Candidate → Option ℤ
kth zero xs = None
kth (suc rank) xs = option_map (λ c. c.score) (slice_get (in_order xs) rank)

-- how many of some candidates score above a number
abbrev pub above : ℤ → List Candidate → ℕ
above b xs = count_by (λ c. int_lt b c.score) xs

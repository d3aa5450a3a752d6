-- The bound of a series: a number that no candidate's score exceeds, found from whole blocks.
use Rattle.std.specs.Prelude.{ℕ, ◌+◌, ◌*◌, ◌/◌, Bool, ◌&&◌, List, map, filter, ℤ, pos, neg_ℤ, ◌-ℤ◌}
use Rattle.std.specs.Prelude.{◌*ℤ◌}
use Rattle.std.specs.List.{flat_map, range_with_len, list_any}
use Rattle.std.specs.Option.{unwrap_or}
use Rattle.std.specs.Int.{int_min}
use Rattle.std.specs.Ordering.{int_eq}
use Rattle.ghcn_fields.specs.Days.{block_of}
use Rattle.ghcn_fields.specs.Sorting.{greatest}
use Rattle.ghcn_series.specs.Meaning.Series.{DayValue, Series}
use Rattle.rank_query.specs.declared.score.Score.{Score}
use Rattle.rank_query.specs.declared.score.Score.TheVariants.{Highest, Lowest, Sum, Dry, Wet, Hot, Cold}
use Rattle.rank_query.specs.Meaning.Asked.{Query}
use Rattle.rank_scores.specs.Meaning.Candidates.{is_such}
use Rattle.rank_scores.specs.Candidates.{test_of}
use Rattle.rank_scores.specs.declared.spell.Spell.TheVariants as spells
use Rattle.rank_scores.specs.Runs.{longest_run}
use Rattle.rank_blocks.specs.Blocks.{is_reached, days_reached, blocks_total}

-- the greatest number that a measure makes of the values of some days, 0 if there are none
abbrev pub greatest_by : (ℤ → ℤ) → List DayValue → ℤ
greatest_by f days = unwrap_or (greatest (map (λ x. f x.1) days)) (pos 0)

-- how many blocks in a row hold any n days in a row
abbrev pub blocks_of_window : ℕ → ℕ
blocks_of_window n = (n + 30) / 32 + 1

-- the blocks of the period from which w blocks hold a usable day
abbrev pub first_blocks : Query → List DayValue → ℕ → List ℤ
first_blocks q days w =
    filter (is_reached q.period) (flat_map (λ x. map (λ i. block_of x.0 -ℤ pos i) (range_with_len 0 w)) days)

-- the greatest total of w blocks in a row that begin in the period, 0 if none of them holds a usable day
abbrev pub greatest_total : Query → List DayValue → ℕ → ℤ
greatest_total q days w = unwrap_or (greatest (map (blocks_total days w) (first_blocks q days w))) (pos 0)

-- the bound of sums: n times the greatest value, or the greatest total of that many blocks, whichever is smaller
abbrev pub sum_bound : Query → Series → ℕ → ℤ
sum_bound q s n =
    int_min (pos n *ℤ greatest_by (λ v. v) (days_reached q s)) (greatest_total q s.days (blocks_of_window n))

-- the bound of spells: the length of the longest run of days that pass, 0 if none does
abbrev pub spell_bound : (ℤ → Bool) → List DayValue → ℤ
spell_bound test days = pos (longest_run (is_such test days) (map (λ x. x.0) days))

-- a block holds one of some days whose value passes
abbrev pub holds_such : (ℤ → Bool) → List DayValue → ℤ → Bool
holds_such test days b = list_any (λ x. int_eq (block_of x.0) b && test x.1) days

-- the bound of hot and of cold spells: 32 times the most blocks in a row that hold a day which passes, 0 if none does
abbrev pub blocks_bound : (ℤ → Bool) → List DayValue → ℤ
blocks_bound test days = pos (32 * longest_run (holds_such test days) (map (λ x. block_of x.0) days))

-- the bound of a score
abbrev pub bound_for : Score → Query → Series → ℤ
bound_for (Highest e) q s = greatest_by (λ v. v) (days_reached q s)
bound_for (Lowest e) q s = greatest_by neg_ℤ (days_reached q s)
bound_for (Sum n e) q s = sum_bound q s n
bound_for Dry q s = spell_bound (test_of spells.Dry) (days_reached q s)
bound_for Wet q s = spell_bound (test_of spells.Wet) (days_reached q s)
bound_for (Hot t) q s = blocks_bound (test_of (spells.Hot t)) (days_reached q s)
bound_for (Cold t) q s = blocks_bound (test_of (spells.Cold t)) (days_reached q s)

-- the bound of a series under a query
abbrev pub bound : Query → Series → ℤ
bound q s = bound_for q.score q s

-- The bound of a series by what it is greatest of, and not by how it is found; and all that is true of the bound.
use Rattle.std.specs.Prelude.{◌≡◌, ℕ, ◌*◌, ◌<◌, Bool, true, List, map, Option, ℤ, pos, neg_ℤ, ◌+ℤ◌, ◌*ℤ◌}
use Rattle.std.specs.List.{Contains}
use Rattle.std.specs.Int.{int_min}
pub use Rattle.ghcn_series.specs.Extremes.{IsGreatest}
use Rattle.ghcn_series.specs.Meaning.Series.{DayValue, Series}
use Rattle.rank_query.specs.declared.score.Score.{Score}
use Rattle.rank_query.specs.declared.score.Score.TheVariants.{Highest, Lowest, Sum, Dry, Wet, Hot, Cold}
use Rattle.rank_query.specs.Meaning.Asked.{Query}
use Rattle.rank_scores.specs.Meaning.Candidates.{is_such}
use Rattle.rank_scores.specs.Candidates.{test_of}
use Rattle.rank_scores.specs.declared.spell.Spell.TheVariants as spells
use Rattle.rank_scores.specs.Morsels.{IsAbove}
use Rattle.rank_blocks.specs.Blocks.{is_reached, days_reached, blocks_total}
use Rattle.rank_blocks.specs.Bounds.{blocks_of_window, holds_such, bound}

-- a measure makes this number of the value of one of these days
abbrev pub IsDayScore : (ℤ → ℤ) → List DayValue → ℤ → Type 0
IsDayScore f days y = Contains (map (λ x. f x.1) days) y

-- this is the total of w blocks in a row of which the first is a block of the period
abbrev pub IsBlocksTotal : Option (ℤ × ℤ) → List DayValue → ℕ → ℤ → Type 0
IsBlocksTotal p days w y = (first : ℤ) × (is_reached p first ≡ true) × (blocks_total days w first ≡ y)

-- that many numbers in a row pass
abbrev pub IsRunLength : (ℤ → Bool) → ℤ → Type 0
IsRunLength such y = (len : ℕ) × (first : ℤ) × (pos len ≡ y) × ((i : ℕ) → i < len → such (first +ℤ pos i) ≡ true)

-- z is the smaller of n times the greatest value and the greatest total of the blocks that n days may lie in
pub record IsSumBound (q : Query) (s : Series) (n : ℕ) (z : ℤ) : Type 0 where
  pub value : ℤ
  pub most : ℤ
  pub greatest_value : IsGreatest (IsDayScore (λ v. v) (days_reached q s)) value
  pub greatest_total : IsGreatest (IsBlocksTotal q.period s.days (blocks_of_window n)) most
  pub smaller : int_min (pos n *ℤ value) most ≡ z

-- z is 32 times the greatest number of blocks in a row that pass
pub record IsBlocksBound (such : ℤ → Bool) (z : ℤ) : Type 0 where
  pub blocks : ℕ
  pub greatest : IsGreatest (IsRunLength such) (pos blocks)
  pub times : pos (32 * blocks) ≡ z

-- z is the bound for a score
abbrev pub IsBoundFor : Score → Query → Series → ℤ → Type 0
IsBoundFor (Highest e) q s z = IsGreatest (IsDayScore (λ v. v) (days_reached q s)) z
IsBoundFor (Lowest e) q s z = IsGreatest (IsDayScore neg_ℤ (days_reached q s)) z
IsBoundFor (Sum n e) q s z = IsSumBound q s n z
IsBoundFor Dry q s z = IsGreatest (IsRunLength (is_such (test_of spells.Dry) (days_reached q s))) z
IsBoundFor Wet q s z = IsGreatest (IsRunLength (is_such (test_of spells.Wet) (days_reached q s))) z
IsBoundFor (Hot t) q s z = IsBlocksBound (holds_such (test_of (spells.Hot t)) (days_reached q s)) z
IsBoundFor (Cold t) q s z = IsBlocksBound (holds_such (test_of (spells.Cold t)) (days_reached q s)) z

-- z is the bound of the series under the query
abbrev pub IsBound : Query → Series → ℤ → Type 0
IsBound q s z = IsBoundFor q.score q s z

-- z is the series' bound as it is computed, and by what it is greatest of, and no candidate of the series is above it
pub record IsSeriesBound (q : Query) (s : Series) (z : ℤ) : Type 0 where
  pub equals : z ≡ bound q s
  pub greatest : IsBound q s z
  pub above : IsAbove q s z

-- What is known of the blocks of a series once its days are forgotten.
use Rattle.std.specs.Prelude.{◌≡◌, ℕ, List, map, Option, None, Some, ℤ, pos, neg_ℤ, ◌-ℤ◌, ◌≤ℤ◌, ◌<ℤ◌, unsigned_abs}
use Rattle.std.specs.List.{AllByRecursion, Contains}
use Rattle.std.specs.List.Sorted.{IsStrictlySortedBy}
use Rattle.std.specs.Ordering.{int_cmp}
use Rattle.ghcn_fields.specs.Meaning.Days.{first_day}
use Rattle.ghcn_fields.specs.Days.{block_of}
use Rattle.ghcn_series.specs.Meaning.Series.{DayValue, Series}
use Rattle.ghcn_series.specs.Series.{IsSeries}
use Rattle.rank_query.specs.declared.score.Score.{Score}
use Rattle.rank_query.specs.declared.score.Score.TheVariants.{Highest, Lowest, Sum, Dry, Wet, Hot, Cold}
use Rattle.rank_scores.specs.declared.spell.Spell.{Spell}
use Rattle.rank_scores.specs.declared.spell.Spell.TheVariants as spells
use Rattle.rank_blocks.specs.declared.summary.Summary.{Summary}
use Rattle.rank_blocks.specs.Blocks.{days_in, total}
use Rattle.rank_blocks.specs.DayRuns.{AreBitsOf}
use Rattle.rank_blocks.specs.Greatest.{IsGreatest, IsDayScore}
use Rattle.rank_blocks.specs.Reached.{IsNear, IsTotal, counts}

-- the summary has the greatest that a measure makes of the values of its block's days
abbrev pub HasDay : (ℤ → ℤ) → List DayValue → Summary → Type 0
HasDay f days m = IsGreatest (IsDayScore f (days_in days m.number)) m.day

-- the summary has the greatest and the total of the values of its block's days
pub record HasSum (days : List DayValue) (m : Summary) : Type 0 where
  pub greatest_value : HasDay (λ v. v) days m
  pub total_value : total (map (λ x. x.1) (days_in days m.number)) ≡ m.total

-- the summary has those of its block's days that count for a spell
abbrev pub HasDays : Spell → List DayValue → Summary → Type 0
HasDays k days m = AreBitsOf (counts k days) m.number m.days

-- the summary has what a score asks of its block's days
abbrev pub IsSummary : Score → List DayValue → Summary → Type 0
IsSummary (Highest e) days m = HasDay (λ v. v) days m
IsSummary (Lowest e) days m = HasDay neg_ℤ days m
IsSummary (Sum n e) days m = HasSum days m
IsSummary Dry days m = HasDays spells.Dry days m
IsSummary Wet days m = HasDays spells.Wet days m
IsSummary (Hot t) days m = HasDays (spells.Hot t) days m
IsSummary (Cold t) days m = HasDays (spells.Cold t) days m

-- each block that holds a usable day has one summary, of which this is true, by block number
pub record AreOfBlocks (P : Summary → Type 0) (s : Series) (ms : List Summary) : Type 0 where
  pub each : AllByRecursion P ms
  pub all : AllByRecursion (λ x. Contains (map (λ m. m.number) ms) (block_of x.0)) s.days
  pub by_number : IsStrictlySortedBy int_cmp (map (λ m. m.number) ms)

-- these are the summaries of the blocks that hold a usable day, by what a score asks
abbrev pub AreSummaries : Score → Series → List Summary → Type 0
AreSummaries score s ms = AreOfBlocks (IsSummary score s.days) s ms

-- what is true of each summary, whatever its series
pub record IsPossible (m : Summary) : Type 0 where
  pub low : neg_ℤ (pos 22_474) ≤ℤ m.number
  pub high : m.number ≤ℤ pos 91_653
  pub near : IsNear m.day
  pub small : IsTotal m.total

-- what is true of the summaries of every series
pub record ArePossible (ms : List Summary) : Type 0 where
  pub each : AllByRecursion IsPossible ms
  pub by_number : IsStrictlySortedBy int_cmp (map (λ m. m.number) ms)

-- these are the summaries of the blocks of a series before one
pub record AreSummariesTo (score : Score) (s : Series) (end : ℤ) (ms : List Summary) : Type 0 where
  pub series : IsSeries s
  pub low : block_of first_day ≤ℤ end
  pub high : end ≤ℤ pos 91_654
  pub each : AllByRecursion (IsSummary score s.days) ms
  pub possible : AllByRecursion IsPossible ms
  pub before : AllByRecursion (λ m. m.number <ℤ end) ms
  pub all : AllByRecursion (λ x. block_of x.0 <ℤ end → Contains (map (λ m. m.number) ms) (block_of x.0)) s.days
  pub by_number : IsStrictlySortedBy int_cmp (map (λ m. m.number) ms)

-- these are the summaries of the blocks before the next one to look at, or all of them
abbrev pub AreSummariesUpTo : Score → Series → List Summary → Option ℤ → Type 0
AreSummariesUpTo score s ms (Some end) = AreSummariesTo score s end ms
AreSummariesUpTo score s ms None = AreSummaries score s ms × ArePossible ms

-- how many numbers of blocks there are at most to look at
abbrev pub numbers_left : Option ℤ → ℕ
numbers_left None = 0
numbers_left (Some n) = unsigned_abs (pos 91_655 -ℤ n)

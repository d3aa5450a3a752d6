-- What the summaries of the blocks of a range say.
use Rattle.std.specs.Prelude.{◌≡◌, ℕ, Bool, true, ◌&&◌, List, map, filter, ℤ, pos, neg_ℤ, ◌≤ℤ◌, int_le}
use Rattle.ghcn_fields.specs.Days.{block_of}
use Rattle.ghcn_series.specs.Meaning.Series.{DayValue}
use Rattle.rank_query.specs.Meaning.Asked.{Query}
use Rattle.rank_scores.specs.Candidates.{test_of}
use Rattle.rank_scores.specs.Meaning.Candidates.{is_such}
use Rattle.rank_scores.specs.declared.spell.Spell.{Spell}
use Rattle.rank_scores.specs.declared.spell.Spell.TheVariants.{Dry, Wet, Hot, Cold}
use Rattle.rank_blocks.specs.declared.range.BlockRange.{BlockRange}
use Rattle.rank_blocks.specs.declared.summary.Summary.{Summary}
use Rattle.rank_blocks.specs.Blocks.{period_of, total, is_among_blocks}
use Rattle.rank_blocks.specs.Bounds.{holds_such}

-- a score that single days can have
pub record IsNear (z : ℤ) : Type 0 where
  pub low : neg_ℤ (pos 2_147_483_648) ≤ℤ z
  pub high : z ≤ℤ pos 2_147_483_648

-- a total that the days of a block can have
pub record IsTotal (z : ℤ) : Type 0 where
  pub low : neg_ℤ (pos 68_719_476_736) ≤ℤ z
  pub high : z ≤ℤ pos 68_719_476_736

-- the range of the blocks of the query's period, or of the calendar if it has none
pub record IsRangeOf (r : BlockRange) (q : Query) : Type 0 where
  pub first : r.first ≡ block_of (period_of q.period).0
  pub last : r.last ≡ block_of (period_of q.period).1

-- the block lies in the range
abbrev pub in_range : BlockRange → ℤ → Bool
in_range r b = int_le r.first b && int_le b r.last

-- the days in the blocks of a range
abbrev pub days_in_range : BlockRange → List DayValue → List DayValue
days_in_range r days = filter (λ x. in_range r (block_of x.0)) days

-- those of some summaries whose blocks lie in the range
abbrev pub summaries_in : BlockRange → List Summary → List Summary
summaries_in r ms = filter (λ m. in_range r m.number) ms

-- the day counts for a spell: it is dry or wet, or its block holds a hot or cold day, since no summary has which days
-- are hot or cold
abbrev pub counts : Spell → List DayValue → ℤ → Bool
counts Dry days d = is_such (test_of Dry) days d
counts Wet days d = is_such (test_of Wet) days d
counts (Hot t) days d = holds_such (test_of (Hot t)) days (block_of d)
counts (Cold t) days d = holds_such (test_of (Cold t)) days (block_of d)

-- the total of w blocks from one on
abbrev pub summaries_total : List Summary → ℕ → ℤ → ℤ
summaries_total ms w first = total (map (λ m. m.total) (filter (λ m. is_among_blocks first w m.number) ms))

-- this is the total of w blocks of which the first lies in the range
abbrev pub IsTotalFrom : BlockRange → List Summary → ℕ → ℤ → Type 0
IsTotalFrom r ms w y = (first : ℤ) × (in_range r first ≡ true) × (summaries_total ms w first ≡ y)

-- Blocks of 32 days: block b has the days from 32 b to 32 b + 31, and the bound of a period is found from whole blocks.
use Rattle.std.specs.Prelude.{ℕ, Bool, ◌&&◌, List, [], ◌∷◌, map, filter, Option, ℤ, pos, ◌+ℤ◌, int_le, int_lt}
use Rattle.std.specs.Option.{unwrap_or}
use Rattle.std.specs.Ordering.{int_eq}
use Rattle.ghcn_fields.specs.Meaning.Days.{first_day, last_day}
use Rattle.ghcn_fields.specs.Days.{block_of}
pub use Rattle.ghcn_series.specs.Packed.{block_start}
use Rattle.ghcn_series.specs.Meaning.Series.{DayValue, Series}
use Rattle.rank_query.specs.Meaning.Asked.{Query}

-- the first day and the last day of the period, or of the calendar if there is none
abbrev pub period_of : Option (ℤ × ℤ) → ℤ × ℤ
period_of p = unwrap_or p (first_day, last_day)

-- a block of the period: it holds a day of it
abbrev pub is_reached : Option (ℤ × ℤ) → ℤ → Bool
is_reached p b = int_le (block_of (period_of p).0) b && int_le b (block_of (period_of p).1)

-- the usable days in the blocks of the period
abbrev pub days_reached : Query → Series → List DayValue
days_reached q s = filter (λ x. is_reached q.period (block_of x.0)) s.days

-- those of some days that lie in a block
abbrev pub days_in : List DayValue → ℤ → List DayValue
days_in days b = filter (λ x. int_eq (block_of x.0) b) days

-- b is one of the w blocks from another one on
abbrev pub is_among_blocks : ℤ → ℕ → ℤ → Bool
is_among_blocks first w b = int_le first b && int_lt b (first +ℤ pos w)

-- the sum of some numbers
abbrev pub total : List ℤ → ℤ
total [] = pos 0
total (z ∷ zs) = z +ℤ total zs

-- the total of the usable values of w blocks from one on
abbrev pub blocks_total : List DayValue → ℕ → ℤ → ℤ
blocks_total days w first = total (map (λ x. x.1) (filter (λ x. is_among_blocks first w (block_of x.0)) days))

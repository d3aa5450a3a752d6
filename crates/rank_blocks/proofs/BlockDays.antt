-- The summary that is made of a block's word and values is that of its days.
use Rattle.rank_blocks.proofs.Cited.{◌≡◌, ℕ, zero, suc, ◌+◌, ◌<◌, List, map, length, get_or, drop, Some, refl, sym, ap}
use Rattle.rank_blocks.proofs.Cited.{◌∙◌, arith, ℤ, pos, ◌+ℤ◌, filter_map, int_eq, bit_at, AllByRecursion}
use Rattle.rank_blocks.proofs.Cited.{range_with_len, Decides-int_eq, ints, drop_all, drop_more, bit_at-lt, block_of}
use Rattle.rank_blocks.proofs.Cited.{AreRising, IsBlockOf, day_from, days_from, block_days, DayValue, value_on, Spell}
use Rattle.rank_blocks.proofs.Cited.{Summary, days_in, block_start, total, AreBitsOf, IsGreatest, IsDayScore, counts}
use Rattle.rank_blocks.proofs.Cited.{HasDay, HasDays, HasZeros, IsUsableScore, block-of_place, values_stand}
use Rattle.rank_blocks.proofs.Cited.{rise-filter}
use Rattle.ghcn_series.proofs.Lookups.{block-value, block-other}
use Rattle.ghcn_series.proofs.RisingDays.{block-rises, same-from_values}
use Rattle.rank_blocks.proofs.Members.{of_each, in_kept, from_kept}
use Rattle.rank_blocks.proofs.DaysInBlocks.{place-in}
use Rattle.rank_blocks.proofs.ReachedDays.{value_on-among, value_on-in, value_on-filter}

-- ---- totals

-- the total of the days at the places from one on is that of their values
places-total : (first : ℤ) (word : ℕ) (values : List ℤ) → length values ≡ 32 → HasZeros word values → (s n : ℕ)
    → s + n ≡ 32 → total (map (λ x. x.1) (filter_map (day_from first word values) (range_with_len s n)))
    ≡ total (drop s values)
places-total first word values size zeros s zero at = sym (ap total (drop_all s values (omega arith)))
places-total first word values size zeros s (suc n) at =
    let rest = places-total first word values size zeros (s + 1) n (omega arith) in
    grind (arith, ints, drop_more values s (pos 0), rest, zeros s, bit_at-lt word s)

-- ---- a summary

-- the summary of a block has the greatest score of its days
pub has-day : (f : ℤ → ℤ) (days : List DayValue) (b z : ℤ) (m : Summary) → m.number ≡ b → m.day ≡ z
    → IsGreatest (IsDayScore f (days_in days b)) z → HasDay f days m
has-day f days b z m number day of_z = grind (arith, ints)

-- and those of its days that count
pub has-days : (k : Spell) (days : List DayValue) (b : ℤ) (word : ℕ) (m : Summary) → m.number ≡ b → m.days ≡ word
    → AreBitsOf (counts k days) b word → HasDays k days m
has-days k days b word m number is bits = grind (arith, ints)

-- ---- a block of a series

module _ (days : List DayValue) (rise : AreRising days) (b : ℤ) (word : ℕ) (values : List ℤ)
    (of_block : IsBlockOf days b word values) where
  -- the score of a usable day is among those of the block's days
  score-stands : (f : ℤ → ℤ) (z : ℤ) → IsUsableScore f word values z → IsDayScore f (days_in days b) z
  score-stands f z of_z =
      let d : ℤ = block_start b +ℤ pos of_z.0 in
      let v : ℤ = get_or values of_z.0 (pos 0) in
      let is : value_on days d ≡ Some v = grind (arith, ints) in
      rw (← of_z.3) (in_kept (λ y. f y.1) (λ x. int_eq (block_of x.0) b) days (d, v) (value_on-in days d v is)
      ((Decides-int_eq (block_of d) b).1 (block-of_place b of_z.0 of_z.1)))

  -- a score of the block's days is made of the value of a usable day
  score-of : (f : ℤ → ℤ) (y : ℤ) → IsDayScore f (days_in days b) y → IsUsableScore f word values y
  score-of f y h =
      let found = from_kept (λ x. f x.1) (λ x. int_eq (block_of x.0) b) days y h in
      let x : DayValue = found.0 in
      let own = of_each (λ x. value_on days x.0 ≡ Some x.1) days (values_stand days rise) x found.1.0 in
      let at = place-in b x.0 ((Decides-int_eq (block_of x.0) b).0 found.1.1) in
      let holds = of_block.holds at.0 at.1 ∙ (rw at.2 at own) in
      (at.0, at.1, grind (arith, ints, holds, bit_at-lt word at.0), grind (arith, ints, holds, found.2))

  -- the greatest score of the usable days is that of the block's days
  pub block-score : (f : ℤ → ℤ) (z : ℤ) → IsGreatest (IsUsableScore f word values) z
      → IsGreatest (IsDayScore f (days_in days b)) z
  block-score f z of_z = grind (arith, ints, score-stands, score-of)

  -- the days of the block are those of its word and values
  block-days-in : days_in days b ≡ block_days (b, (word, values))
  block-days-in =
      same-from_values (days_in days b) (block_days (b, (word, values)))
      (rise-filter (λ x. int_eq (block_of x.0) b) days rise) (block-rises (b, (word, values)))
      (λ d. let of_place = block-value (b, (word, values)) in
      let other = block-other (b, (word, values)) d in
      value_on-filter (λ n. int_eq (block_of n) b) d days
      ∙ grind (arith, ints, place-in b d, of_block.holds, of_place, other, Decides-int_eq (block_of d) b))

  -- the total of the values is that of the block's days
  pub block-sum : length values ≡ 32 → total (map (λ x. x.1) (days_in days b)) ≡ total values
  unfolding days_from
  block-sum size = ap (λ (xs : List DayValue). total (map (λ x. x.1) xs)) block-days-in
      ∙ places-total (block_start b) word values size of_block.zeros 0 32 refl

  -- a usable day's bit belongs to a day that has a value
  pub block-day : (P : ℤ → ℤ → Type 0) → AllByRecursion (λ x. P x.0 x.1) days → (j : ℕ) → j < 32 → bit_at word j ≡ 1
      → P (block_start b +ℤ pos j) (get_or values j (pos 0))
  block-day P all j lt bit = grind (arith, ints, value_on-among, get_or)

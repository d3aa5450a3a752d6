-- The bound of a series is found from its summaries.
use Rattle.rank_blocks.proofs.Cited.{rules, ◌≡◌, ℕ, Bool, List, map, filter, sym, subst, arith, ℤ, pos, ◌≤ℤ◌, ◌*ℤ◌}
use Rattle.rank_blocks.proofs.Cited.{unwrap_or, int_min, ints, block_of, greatest, Series, Element, Score, Sum, Dry}
use Rattle.rank_blocks.proofs.Cited.{Wet, Hot, Cold, Query, IsAsked, test_of, Spell, BlockRange, Summary, days_reached}
use Rattle.rank_blocks.proofs.Cited.{is_reached, blocks_of_window, holds_such, bound, IsAskedOf, IsGreatest, IsDayScore}
use Rattle.rank_blocks.proofs.Cited.{IsBlocksBound, IsBlocksTotal, IsRunLength, IsBoundFor, IsBound, IsRangeOf, in_range, summaries_in}
use Rattle.rank_blocks.proofs.Cited.{IsTotalFrom, counts, days_in_range, AreOfBlocks, AreSummaries, HasDay, HasDays}
use Rattle.rank_blocks.proofs.Cited.{HasSum, from_each, true}
use Rattle.ghcn_series.proofs.ListFacts.{all-filter}
use Rattle.rank_scores.specs.Candidates.{contenders}
use Rattle.rank_scores.specs.Morsels.{IsAbove}
use Rattle.rank_blocks.proofs.Members.{in_kept, greatest-some, greatest-unique, total-least}
use Rattle.rank_blocks.proofs.DaysInBlocks.{block-rises}
use Rattle.rank_blocks.proofs.PossibleBlocks.{AreFalls}
use Rattle.rank_blocks.proofs.Totals.{summaries_total-is}
use Rattle.rank_blocks.proofs.ReachedDays.{admitted-reached, summary-of, greatest-of_blocks}
use Rattle.rank_blocks.proofs.Above.{AreFallen, sums-fall, above-for}
use Rattle.rank_blocks.proofs.Computed.{some_admitted, unique-for, blocks-computed, computed-IsBound}
use Rattle.rank_blocks.proofs.HotBlocks.{days-greatest}
use Rattle.rank_scores.specs.declared.spell.Spell.TheVariants as kinds

-- its blocks are those of the period
pub range-is : (r : BlockRange) (q : Query) → IsRangeOf r q → in_range r ≡ is_reached q.period
range-is r q of = grind (arith, ints)

-- the first block of its range isn't after the last
pub range-rises : (r : BlockRange) (q : Query) → IsRangeOf r q → IsAsked q → r.first ≤ℤ r.last
range-rises r q of asked = grind (arith, ints, block-rises)

-- a bound for the query's score is the bound
pub bound-for : (q : Query) (s : Series) (score : Score) (z : ℤ) → q.score ≡ score → IsBoundFor score q s z
    → IsBound q s z
bound-for q s score z is of_z = subst (λ (k : Score). IsBoundFor k q s z) (sym is) of_z

-- the score of the spells of days that count
abbrev pub score_of : Spell → Score
score_of kinds.Dry = Dry
score_of kinds.Wet = Wet
score_of (kinds.Hot t) = Hot t
score_of (kinds.Cold t) = Cold t

module _ (r : BlockRange) (q : Query) (s : Series) (ms : List Summary) (of : IsRangeOf r q)
    (asked_of : IsAskedOf q s) where
  -- the greatest score of a day, from the summaries
  pub day-met : (f : ℤ → ℤ) (z : ℤ) → AreOfBlocks (HasDay f s.days) s ms
      → z ≡ unwrap_or (greatest (map (λ m. m.day) (summaries_in r ms))) (pos 0)
      → IsGreatest (IsDayScore f (days_reached q s)) z
  day-met f z are is =
      let day = some_admitted q s asked_of.admitted_day in
      let block = summary-of (HasDay f s.days) s ms are day.0 day.1.0 in
      let reached = admitted-reached q day.0.0 day.1.1 in
      let holds : in_range r block.0.number ≡ true = grind (arith, ints, block.2, reached, of) in
      let most = greatest-some (map (λ m. m.day) (summaries_in r ms)) block.0.day
      (in_kept (λ m. m.day) (λ m. in_range r m.number) ms block.0 block.1 holds) in
      subst (λ (P : ℤ → Bool). IsGreatest (IsDayScore f (filter (λ x. P (block_of x.0)) s.days)) z) (range-is r q of)
      (greatest-of_blocks f (in_range r) s ms z are (rw is most))

  -- the longest run of the days in blocks that hold a day which passes is 32 times that of the blocks
  blocks-met : (test : ℤ → Bool) (z : ℤ)
      → IsGreatest (IsRunLength (λ d. holds_such test (days_reached q s) (block_of d))) z
      → IsBlocksBound (holds_such test (days_reached q s)) z
  blocks-met test z longest =
      let such : ℤ → Bool = holds_such test (days_reached q s) in
      let found = blocks-computed test q s asked_of.series in
      search (rules, arith, ints, found, greatest-unique, days-greatest)

  -- the longest run of the days that count is what the bound of spells asks for
  run-met : (k : Spell) (z : ℤ) → IsGreatest (IsRunLength (counts k (days_reached q s))) z
      → IsBoundFor (score_of k) q s z
  run-met kinds.Dry z longest = longest
  run-met kinds.Wet z longest = longest
  run-met (kinds.Hot t) z longest = blocks-met (test_of (kinds.Hot t)) z longest
  run-met (kinds.Cold t) z longest = blocks-met (test_of (kinds.Cold t)) z longest

  -- the bound of spells, from the summaries
  pub spell-met : (k : Spell) (z : ℤ) → q.score ≡ score_of k → AreSummaries q.score s ms
      → (AreOfBlocks (HasDays k s.days) s ms → IsGreatest (IsRunLength (counts k (days_in_range r s.days))) z)
      → IsBound q s z
  spell-met k z is are longest = bound-for q s (score_of k) z is (run-met k z
      (subst (λ (P : ℤ → Bool). IsGreatest (IsRunLength (counts k (filter (λ x. P (block_of x.0)) s.days))) z)
      (range-is r q of) (longest (has-days k (subst (λ (score : Score). AreSummaries score s ms) is are)))))
    where
      -- the summaries have the days that count
      has-days : (k : Spell) → AreSummaries (score_of k) s ms → AreOfBlocks (HasDays k s.days) s ms
      has-days kinds.Dry are = are
      has-days kinds.Wet are = are
      has-days (kinds.Hot t) are = are
      has-days (kinds.Cold t) are = are

  module _ (are : AreOfBlocks (HasSum s.days) s ms) where
    -- no total of a block is below zero, if no value is
    totals-fall : AreFallen s.days → AreFalls ms
    totals-fall falls = grind (arith, ints, from_each, total-least)

    -- the greatest total, from the summaries
    total-met : (w : ℕ) (z : ℤ) → IsGreatest (IsTotalFrom r ms w) z → IsGreatest (IsBlocksTotal q.period s.days w) z
    total-met w z of_z = grind (arith, ints, of, summaries_total-is)

    -- the bound of sums, from the summaries
    pub sum-met : (n : ℕ) (e : Element) (value most z : ℤ) → IsAsked q → q.score ≡ Sum n e
        → value ≡ unwrap_or (greatest (map (λ m. m.day) (summaries_in r ms))) (pos 0)
        → (AreFalls ms → r.first ≤ℤ r.last → IsGreatest (IsTotalFrom r ms (blocks_of_window n)) most)
        → z ≡ int_min (pos n *ℤ value) most → IsBound q s z
    sum-met n e value most z asked score value_is of_most smaller =
        let falls = totals-fall (sums-fall q s n e asked asked_of.series asked_of.element score) in
        let days : AreOfBlocks (HasDay (λ v. v) s.days) s ms = grind (arith, ints, from_each, are) in
        bound-for q s (Sum n e) z score (record {
          value = value;
          most = most;
          greatest_value = day-met (λ v. v) value days value_is;
          greatest_total = total-met (blocks_of_window n) most (of_most falls (range-rises r q of asked));
          smaller = sym smaller;
        })

-- the bound by what it is greatest of is the one that is computed
pub bound-computed : (q : Query) (s : Series) (z : ℤ) → IsAsked q → IsAskedOf q s → IsBound q s z → z ≡ bound q s
bound-computed q s z asked of of_z = unique-for q.score q s z (bound q s) of_z (computed-IsBound q s asked of)

-- and no candidate's score is above it, since candidates are among the contenders
pub bound-above : (q : Query) (s : Series) (z : ℤ) → IsAsked q → IsAskedOf q s → IsBound q s z → IsAbove q s z
bound-above q s z asked of of_z =
    all-filter (λ c. c.score ≤ℤ z) _ (contenders q s) (above-for q.score q s z of.series
    (λ n e is. sums-fall q s n e asked of.series of.element is) of_z)

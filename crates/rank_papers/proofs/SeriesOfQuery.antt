-- The series of a query, by what they are: there is one list of them, and it is the morsels.
use Rattle.std.proofs.Common.{◌≡◌, ℕ, ◌<◌, true, List, length, filter, ap, arith, not}
use Rattle.std.specs.Prelude.{◌==◌}
use Rattle.std.specs.List.{AllByRecursion, Contains}
use Rattle.std.specs.List.Sorted.{IsPermutation}
use Rattle.std.specs.Ordering.{is_lt}
use Rattle.std.specs.declared.cmp.Ordering.TheVariants.{Less}
use Rattle.std.proofs.lemmas.Bool.Decides.{nat_tests}
use Rattle.ghcn_files.proofs.IdOrder.{id_cmp, comes_first, strictly, strictly_ranks}
use Rattle.ghcn_files.proofs.Ordered.{Descend, descend-weaker, less, one_rising, sorted-permutation}
use Rattle.ghcn_series.specs.Meaning.Series.{Series}
use Rattle.ghcn_series.specs.Series.{Data}
use Rattle.ghcn_series.specs.Held.{IsContents}
use Rattle.ghcn_series.proofs.Members.{In, contains-in, in-contains, of_one, for_each, kept_in, in_kept, in_permuted}
use Rattle.rank_query.specs.Meaning.Asked.{Query}
use Rattle.rank_scores.specs.Meaning.Candidates.{admitted}
use Rattle.rank_scores.specs.Morsels.{admitted_series, morsels, has_admitted}
use Rattle.rank_scores.proofs.QueryCandidates.{morsels_rise}
use Rattle.rank_pool.proofs.Orders.{sorted-all}
use Rattle.rank_papers.specs.Meaning.Right.{AreSeriesOf}
use Rattle.rank_papers.specs.RightLaws.{IsHeldSeries}
use Rattle.rank_papers.proofs.BestOfQuery.{sorted-descends, descends-sorted}

-- ---- by increasing ID

-- a series comes before another by its ID
abbrev IsBefore : Series → Series → Type 0
IsBefore a b = strictly (λ (s : Series). s.id) a b ≡ true

-- so do the series of a query, each before all after it
rising : (q : Query) (IsOne : Series → Type 0) (xs : List Series) → AreSeriesOf q IsOne xs → Descend IsBefore xs
rising q IsOne xs s =
    let order = id_cmp (λ (u : Series). u.id) in
    descend-weaker (λ a b. order a b ≡ Less) IsBefore xs (λ a b e. ap is_lt e) (sorted-descends order xs s.by_id)

-- ---- with an admitted day

-- a number above 0 isn't 0
some_is : (n : ℕ) → 0 < n → not (n == 0) ≡ true
some_is n h = grind (arith, nat_tests)

-- and what isn't 0 is above it
is_some : (n : ℕ) → not (n == 0) ≡ true → 0 < n
is_some n h = grind (arith, nat_tests)

-- ---- the morsels

module _ (q : Query) (c : Data) (right : IsContents c) where
  -- the series with an admitted day, in file order
  abbrev kept : List Series
  kept = filter (has_admitted q) (admitted_series q c)

  -- the morsels are those in another order
  moved : IsPermutation kept (morsels q c)
  moved = sorted-permutation (comes_first (λ s. s.id)) kept

  -- each is a series of the query with an admitted day
  each_is : AllByRecursion (λ s. Contains (admitted_series q c) s × (0 < length (admitted q s))) (morsels q c)
  each_is =
      sorted-all (comes_first (λ s. s.id)) (λ s. Contains (admitted_series q c) s × (0 < length (admitted q s))) kept
      (for_each (λ s. Contains (admitted_series q c) s × (0 < length (admitted q s))) kept (λ s h.
      let there = kept_in (has_admitted q) (admitted_series q c) s h in
      (in-contains (admitted_series q c) s there.0, is_some (length (admitted q s)) there.1)))

  -- and each such series is one
  is_one : (s : Series) → Contains (admitted_series q c) s → 0 < length (admitted q s) → Contains (morsels q c) s
  is_one s there some =
      in-contains (morsels q c) s (of_one (In (morsels q c)) kept s (in_permuted kept (morsels q c) moved)
      (in_kept (has_admitted q) (admitted_series q c) s (contains-in (admitted_series q c) s there)
      (some_is (length (admitted q s)) some)))

  -- so they are the series of the query
  pub morsels_are : AreSeriesOf q (IsHeldSeries q c) (morsels q c)
  morsels_are = record {
    are = λ s. (
      λ h. of_one (λ t. Contains (admitted_series q c) t × (0 < length (admitted q t))) (morsels q c) s each_is
          (contains-in (morsels q c) s h),
      λ h. is_one s h.0 h.1,
    );
    by_id = descends-sorted (id_cmp (λ (s : Series). s.id)) (morsels q c)
        (descend-weaker IsBefore (λ a b. id_cmp (λ (s : Series). s.id) a b ≡ Less) (morsels q c)
        (λ a b. less (id_cmp (λ (s : Series). s.id) a b)) (morsels_rise q c right));
  }

-- there is one list of the series of a query
pub one_series : (q : Query) (IsOne : Series → Type 0) (xs ys : List Series) → AreSeriesOf q IsOne xs
    → AreSeriesOf q IsOne ys → xs ≡ ys
one_series q IsOne xs ys s t =
    one_rising (strictly (λ (u : Series). u.id)) (strictly_ranks (λ u. u.id)) xs ys (rising q IsOne xs s)
    (rising q IsOne ys t) (λ x h. contains-in ys x ((t.are x).1 ((s.are x).0 (in-contains xs x h))))
    (λ x h. contains-in xs x ((s.are x).1 ((t.are x).0 (in-contains ys x h))))

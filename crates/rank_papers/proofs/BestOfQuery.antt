-- The best of a query, by what they are: there is one list of them, and it is what is found by rank.
use Rattle.std.proofs.Common.{◌≡◌, ◌⊎◌, inl, inr, ℕ, zero, suc, ◌≤◌, List, [], ◌∷◌}
use Rattle.std.proofs.Common.{length, take, refl, sym, ap, ◌∙◌, subst, arith, true}
use Rattle.std.specs.List.{flat_map, AllByRecursion, Contains}
use Rattle.std.specs.List.Sorted.{IsStrictlySortedBy}
use Rattle.std.specs.Ordering.{int_cmp, is_lt, is_le, ordering_then, ordering_reverse}
use Rattle.std.specs.declared.cmp.Ordering.{Ordering}
use Rattle.std.specs.declared.cmp.Ordering.TheVariants.{Less, Equal, Greater}
use Rattle.std.proofs.lemmas.List.{length-take}
use Rattle.std.proofs.lemmas.List.Sorted.{IsPermutation-sym}
use Rattle.ghcn_files.proofs.Ordered.{Descend, descend-weaker}
use Rattle.ghcn_series.proofs.ListFacts.{each-append}
use Rattle.ghcn_series.proofs.Members.{In, contains-in, in-contains, of_one, for_each, in_all, in_permuted}
use Rattle.ghcn_series.specs.Meaning.Series.{Series}
use Rattle.ghcn_series.specs.Series.{Data, IsSeries}
use Rattle.ghcn_series.specs.Held.{IsContents}
use Rattle.rank_query.specs.Meaning.Asked.{Query, IsAsked}
use Rattle.rank_scores.specs.declared.candidate.Candidate.{Candidate}
use Rattle.rank_scores.specs.Candidates.{candidates}
use Rattle.rank_scores.specs.Meaning.Order.{precedes, rank_cmp}
use Rattle.rank_scores.specs.Order.{full_cmp}
use Rattle.rank_scores.specs.Morsels.{admitted_series, all_candidates, best_of_query}
use Rattle.rank_scores.proofs.Exactly.{exactly}
use Rattle.rank_scores.proofs.Listing.{full_cmp_total}
use Rattle.rank_scores.proofs.Ranks.{Descends}
use Rattle.rank_scores.proofs.Rising.{from_each, from_both}
use Rattle.rank_scores.proofs.QueryCandidates.{all_apart}
use Rattle.rank_pool.specs.First.{in_order}
use Rattle.rank_pool.proofs.Orders.{same_place, take-all}
use Rattle.rank_pool.proofs.Ranked.{in_order-permutation, in_order-descends, best-first}
use Rattle.rank_papers.specs.Meaning.Right.{IsOfQuery, AreBest}
use Rattle.rank_papers.specs.RightLaws.{IsHeldSeries, HaveOneBest, BestAreFound}
use Rattle.rank_papers.proofs.RightCertificates.{series_hold}

-- ---- the order of listing

-- a is listed before b
abbrev Before : Candidate → Candidate → Type 0
Before a b = full_cmp a b ≡ Less

-- of two candidates at most one is listed before the other
asym : (a b : Candidate) → Before a b → Before b a → ⊥
asym a b f g = absurd
    (let other : Less ≡ Greater = sym f ∙ full_cmp_total.antisymm a b ∙ ap ordering_reverse g in cc)

-- of two candidates one is listed before the other, or they are the same
one_before : (a b : Candidate) → (a ≡ b) ⊎ Before a b ⊎ Before b a
one_before a b = by (full_cmp a b) (full_cmp b a) refl refl (full_cmp_total.antisymm a b)
  where
    by : (o p : Ordering) → full_cmp a b ≡ o → full_cmp b a ≡ p → full_cmp a b ≡ ordering_reverse (full_cmp b a)
        → (a ≡ b) ⊎ Before a b ⊎ Before b a
    by Less p e f t = inr (inl e)
    by o Less e f t = inr (inr f)
    by Equal p e f t = inl (same_place a b (ap is_le e)
        (let back : ordering_reverse (full_cmp b a) ≡ Equal = sym t ∙ e in grind arith))
    by Greater Equal e f t = absurd (let back : Greater ≡ Equal = sym e ∙ t ∙ ap ordering_reverse f in cc)
    by Greater Greater e f t = absurd (let back : Greater ≡ Less = sym e ∙ t ∙ ap ordering_reverse f in cc)

-- a comes before b by rank
abbrev Ranked : Candidate → Candidate → Type 0
Ranked a b = rank_cmp a b ≡ Less

-- a candidate that comes before another by rank is listed before it
ranked_before : (a b : Candidate) → Ranked a b → Before a b
ranked_before a b e = ap (λ (o : Ordering). ordering_then o (int_cmp a.last b.last)) e

-- what is less
less_is : (o : Ordering) → is_lt o ≡ true → o ≡ Less
less_is Less e = refl
less_is Equal e = absurd cc
less_is Greater e = absurd cc

-- candidates that descend come one before the other by rank
descends-ranked : (xs : List Candidate) → Descends xs → Descend Ranked xs
descends-ranked xs = descend-weaker (λ a b. precedes a b ≡ true) Ranked xs (λ a b. less_is (rank_cmp a b))

-- a list in order descends
pub sorted-descends : {X : Type 0} (order : X → X → Ordering) (xs : List X) → IsStrictlySortedBy order xs
    → Descend (λ a b. order a b ≡ Less) xs
unfolding IsStrictlySortedBy
sorted-descends order [] h = tt
sorted-descends order (x ∷ xs) h = (h.0, sorted-descends order xs h.1)

-- and the other way round
pub descends-sorted : {X : Type 0} (order : X → X → Ordering) (xs : List X) → Descend (λ a b. order a b ≡ Less) xs
    → IsStrictlySortedBy order xs
unfolding IsStrictlySortedBy
descends-sorted order [] h = tt
descends-sorted order (x ∷ xs) h = (h.0, descends-sorted order xs h.1)

-- ---- the first k of what has a property

-- these are the first k of what has a property, in an order
record AreTop (R : Candidate → Candidate → Type 0) (P : Candidate → Type 0) (k : ℕ) (top : List Candidate)
    : Type 0 where
  few : length top ≤ k
  have : AllByRecursion P top
  order : Descend R top
  others : (x : Candidate) → P x → In top x ⊎ ((length top ≡ k) × AllByRecursion (λ b. R b x) top)

-- nothing that has the property is listed before the first
none_before : (P : Candidate → Type 0) (k : ℕ) (y x : Candidate) (ys : List Candidate) → AreTop Before P k (y ∷ ys) → P x
    → Before x y → ⊥
none_before P k y x ys t p b = by (t.others x p)
  where
    by : In (y ∷ ys) x ⊎ ((length (y ∷ ys) ≡ k) × AllByRecursion (λ z. Before z x) (y ∷ ys)) → ⊥
    by (inl (inl e)) = let own : Before x x = subst (Before x) e b in asym x x own own
    by (inl (inr h)) = asym x y b (of_one (Before y) ys x t.order.0 h)
    by (inr all) = asym x y b all.1.0

-- if there are none, nothing has the property or none is wanted
none_first : (P : Candidate → Type 0) (k : ℕ) (y : Candidate) (ys : List Candidate) → AreTop Before P k []
    → AreTop Before P k (y ∷ ys) → ⊥
none_first P k y ys s t =
    elim (s.others y t.have.0) [
      | inl h ↦ h
      | inr all ↦ let few : length (y ∷ ys) ≤ k = t.few in absurd (omega (arith, all.0, few))
    ]

-- what comes after the first are the first of what is listed after it
tail_top : (P : Candidate → Type 0) (k : ℕ) (x : Candidate) (xs : List Candidate) → AreTop Before P (suc k) (x ∷ xs)
    → AreTop Before (λ z. P z × Before x z) k xs
tail_top P k x xs t = record {
  few = omega (arith, t.few);
  have = from_both P (Before x) (λ z. P z × Before x z) xs (λ z p b. (p, b)) t.have.1 t.order.0;
  order = t.order.1;
  others = λ z h. by z h.1 (t.others z h.0);
}
  where
    by : (z : Candidate) → Before x z
        → In (x ∷ xs) z ⊎ ((length (x ∷ xs) ≡ suc k) × AllByRecursion (λ b. Before b z) (x ∷ xs))
        → In xs z ⊎ ((length xs ≡ k) × AllByRecursion (λ b. Before b z) xs)
    by z b (inl (inl e)) = absurd (let own : Before z z = subst (λ w. Before w z) e b in asym z z own own)
    by z b (inl (inr h)) = inl h
    by z b (inr all) = inr (omega (arith, all.0), all.1.1)

-- there is one list of the first k
one_top : (P : Candidate → Type 0) (k : ℕ) (xs ys : List Candidate) → AreTop Before P k xs → AreTop Before P k ys → xs ≡ ys
one_top P k [] [] s t = refl
one_top P k [] (y ∷ ys) s t = absurd (none_first P k y ys s t)
one_top P k (x ∷ xs) [] s t = absurd (none_first P k x xs t s)
one_top P zero (x ∷ xs) (y ∷ ys) s t = absurd (omega (arith, s.few))
one_top P (suc k) (x ∷ xs) (y ∷ ys) s t =
    let same : x ≡ y = by (one_before x y) in
    let rest : xs ≡ ys = one_top (λ z. P z × Before x z) k xs ys (tail_top P k x xs s)
    (subst (λ (w : Candidate). AreTop Before (λ z. P z × Before w z) k ys) (sym same) (tail_top P k y ys t)) in
    λ i. same i ∷ rest i
  where
    by : (x ≡ y) ⊎ Before x y ⊎ Before y x → x ≡ y
    by (inl e) = e
    by (inr (inl b)) = absurd (none_before P (suc k) y x ys t s.have.0 b)
    by (inr (inr b)) = absurd (none_before P (suc k) x y xs s t.have.0 b)

module _ (R : Candidate → Candidate → Type 0) where
  -- the first k of a list that descends descend
  take-descends : (k : ℕ) (xs : List Candidate) → Descend R xs → Descend R (take k xs)
  take-descends zero xs h = tt
  take-descends (suc k) [] h = tt
  take-descends (suc k) (x ∷ xs) h = (take-all (R x) k xs h.0, take-descends k xs h.1)

  -- another of the list comes after k
  out_of_take : (k : ℕ) (xs : List Candidate) → Descend R xs → (z : Candidate) → In xs z
      → In (take k xs) z ⊎ ((length (take k xs) ≡ k) × AllByRecursion (λ b. R b z) (take k xs))
  out_of_take zero xs h z i = inr (refl, tt)
  out_of_take (suc k) [] h z i = absurd i
  out_of_take (suc k) (x ∷ xs) h z (inl e) = inl (inl e)
  out_of_take (suc k) (x ∷ xs) h z (inr i) = by (out_of_take k xs h.1 z i)
    where
      by : In (take k xs) z ⊎ ((length (take k xs) ≡ k) × AllByRecursion (λ b. R b z) (take k xs))
          → In (x ∷ take k xs) z
          ⊎ ((length (x ∷ take k xs) ≡ suc k) × AllByRecursion (λ b. R b z) (x ∷ take k xs))
      by (inl j) = inl (inr j)
      by (inr all) = inr (ap suc all.0, (of_one (R x) xs z h.0 i, all.1))

  -- so they are the first k of what is in the list
  take_top : (P : Candidate → Type 0) (k : ℕ) (xs : List Candidate) → Descend R xs → AllByRecursion P xs
      → ((x : Candidate) → P x → In xs x) → AreTop R P k (take k xs)
  take_top P k xs h all inside = record {
    few = omega (arith, length-take k xs);
    have = take-all P k xs all;
    order = take-descends k xs h;
    others = λ x p. out_of_take k xs h x (inside x p);
  }

-- ---- the best of a query

-- the first k of its candidates by rank are the best
top_best : (q : Query) (IsOne : Series → Type 0) (best : List Candidate) → AreTop Ranked (IsOfQuery q IsOne) q.k best
    → AreBest q IsOne best
top_best q IsOne best t = record {
  few = t.few;
  of_query = t.have;
  order = descends-sorted rank_cmp best t.order;
  others = λ x p. by x (t.others x p);
}
  where
    by : (x : Candidate) → In best x ⊎ ((length best ≡ q.k) × AllByRecursion (λ b. Ranked b x) best)
        → Contains best x ⊎ ((length best ≡ q.k) × AllByRecursion (λ b. Ranked b x) best)
    by x (inl h) = inl (in-contains best x h)
    by x (inr all) = inr all

-- and the best are the first k as they are listed
best_top : (q : Query) (IsOne : Series → Type 0) (best : List Candidate) → AreBest q IsOne best
    → AreTop Before (IsOfQuery q IsOne) q.k best
best_top q IsOne best b = record {
  few = b.few;
  have = b.of_query;
  order = descend-weaker Ranked Before best ranked_before (sorted-descends rank_cmp best b.order);
  others = λ x p. by x (b.others x p);
}
  where
    by : (x : Candidate) → Contains best x ⊎ ((length best ≡ q.k) × AllByRecursion (λ b. Ranked b x) best)
        → In best x ⊎ ((length best ≡ q.k) × AllByRecursion (λ b. Before b x) best)
    by x (inl h) = inl (contains-in best x h)
    by x (inr all) =
        inr (all.0, from_each (λ b. Ranked b x) (λ b. Before b x) best (λ b. ranked_before b x) all.1)

-- so there is one list of the best
pub best_are_one : (q : Query) (IsOne : Series → Type 0) → HaveOneBest q IsOne
best_are_one q IsOne a b s t = one_top (IsOfQuery q IsOne) q.k a b (best_top q IsOne a s) (best_top q IsOne b t)

module _ (q : Query) (c : Data) (asked : IsAsked q) (right : IsContents c) where
  -- the series of the query are right
  series_right : AllByRecursion IsSeries (admitted_series q c)
  series_right = series_hold IsSeries q c right.series.right

  -- a candidate of the query is listed
  is_listed : (x : Candidate) → IsOfQuery q (IsHeldSeries q c) x → In (all_candidates q c) x
  is_listed x (s, there, is) =
      let in_series = contains-in (admitted_series q c) s there in
      let series = of_one IsSeries (admitted_series q c) s series_right in_series in
      in_all (candidates q) (admitted_series q c) s x in_series
      (contains-in (candidates q s) x ((exactly q s series asked x).1 is))

  -- the candidates of some of the query's series are candidates of the query
  each_of_query : (ss : List Series) → AllByRecursion (In (admitted_series q c)) ss → AllByRecursion IsSeries ss
      → AllByRecursion (IsOfQuery q (IsHeldSeries q c)) (flat_map (candidates q) ss)
  each_of_query [] are series = tt
  each_of_query (s ∷ ss) are series =
      each-append (IsOfQuery q (IsHeldSeries q c)) (candidates q s) (flat_map (candidates q) ss)
      (from_each (In (candidates q s)) (IsOfQuery q (IsHeldSeries q c)) (candidates q s)
      (λ x h. (
        s,
        in-contains (admitted_series q c) s are.0,
        (exactly q s series.0 asked x).0 (in-contains (candidates q s) x h),
      ))
      (for_each (In (candidates q s)) (candidates q s) (λ x h. h)))
      (each_of_query ss are.1 series.1)

  -- what is found by rank are the best
  found_best : AreBest q (IsHeldSeries q c) (best_of_query q c)
  found_best =
      let all : List Candidate = all_candidates q c in
      let xs : List Candidate = in_order all in
      let moved : AllByRecursion (In xs) all = in_permuted all xs (in_order-permutation all) in
      let listed : AllByRecursion (In (admitted_series q c)) (admitted_series q c) =
      for_each (In (admitted_series q c)) (admitted_series q c) (λ t h. h) in
      let of_query : AllByRecursion (IsOfQuery q (IsHeldSeries q c)) all =
      each_of_query (admitted_series q c) listed series_right in
      let back : AllByRecursion (In all) xs =
      in_permuted xs all (IsPermutation-sym all xs (in_order-permutation all)) in
      subst (AreBest q (IsHeldSeries q c)) (sym (best-first q.k all (all_apart q c right)))
      (top_best q (IsHeldSeries q c) (take q.k xs) (take_top Ranked (IsOfQuery q (IsHeldSeries q c)) q.k xs
      (descends-ranked xs (in_order-descends all (all_apart q c right)))
      (from_each (In all) (IsOfQuery q (IsHeldSeries q c)) xs
      (λ x h. of_one (IsOfQuery q (IsHeldSeries q c)) all x of_query h) back)
      (λ x p. of_one (In xs) all x moved (is_listed x p))))

-- the best by rank are the best by what they are, and no other list is
pub best_found : BestAreFound
best_found q c best asked right = (
  λ e. subst (AreBest q (IsHeldSeries q c)) (sym e) (found_best q c asked right),
  λ b. best_are_one q (IsHeldSeries q c) best (best_of_query q c) b (found_best q c asked right),
)

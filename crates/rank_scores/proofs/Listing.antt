-- Candidates that are apart, once they are put in order: each precedes all after it.
use Rattle.std.proofs.Common.{◌≡◌, ℕ, suc, ◌<◌, Bool, true, false, List, [], ◌∷◌, arith, length, get_or, rules}
use Rattle.std.specs.Prelude.{◌&&◌}
use Rattle.std.specs.List.Sorted.{IsPermutation, IsSorted}
use Rattle.std.specs.Cmp.{IsTotalOrder}
use Rattle.std.specs.Ordering.{is_lt, is_eq, int_cmp, ordering_then, ordering_reverse}
use Rattle.std.specs.declared.cmp.Ordering.{Ordering}
use Rattle.std.specs.declared.cmp.Ordering.TheVariants.{Equal}
use Rattle.std.proofs.lemmas.Cmp.{int_cmp_total, int_eq_equiv, nat_list_eq_equiv, on_total, then_total}
use Rattle.std.proofs.lemmas.List.Elements.{recursion_from_All}
use Rattle.std.proofs.lemmas.List.Sorted.{ranks_by, sorted_far}
use Rattle.std.proofs.lemmas.Map.Keys.{IsDistinct-IsPermutation, apart_from_distinct}
use Rattle.std.proofs.lemmas.Map.Text.{is_eq-slice_cmp}
use Rattle.rank_scores.specs.declared.candidate.Candidate.{Candidate}
use Rattle.rank_scores.specs.Meaning.Order.{precedes, rank_cmp}
use Rattle.rank_scores.specs.Order.{full_cmp, begin_alike, AreApart}
use Rattle.rank_scores.proofs.Ranks.{rank_cmp_total, Descends}
use Rattle.std.proofs.lemmas.Int.{ints}

-- the order of listing is total
pub full_cmp_total : IsTotalOrder full_cmp
full_cmp_total = then_total rank_cmp_total (on_total (λ c. c.last) int_cmp_total)

-- two that tie by score, ID and first day have one ID and one first day
tied : (s i f : Ordering) → ordering_then s (ordering_then i f) ≡ Equal → (is_eq i && is_eq f) ≡ true
tied s i f e = grind arith

-- candidates that tie in rank begin alike
pub tied_alike : (a b : Candidate) → rank_cmp a b ≡ Equal → begin_alike a b ≡ true
tied_alike a b e = search (rules, arith, Bool, is_eq-slice_cmp, tied)

-- of two that don't tie, the one that isn't listed later comes first
ahead : (o p l : Ordering) → p ≡ ordering_reverse o → (o ≡ Equal → ⊥) → is_lt (ordering_then p l) ≡ false
    → is_lt o ≡ true
ahead o p l back unlike listed = grind arith

-- so it is with two that are apart
pub listed_first : (a b : Candidate) → is_lt (full_cmp b a) ≡ false → begin_alike a b ≡ false → precedes a b ≡ true
listed_first a b listed apart =
    ahead (rank_cmp a b) (rank_cmp b a) (int_cmp b.last a.last) (rank_cmp_total.antisymm b a)
    (λ e. let alike = tied_alike a b e in cc) listed

-- if each precedes what is at later places, each precedes all after it
by_place : (xs : List Candidate)
    → ((i j : ℕ) (d : Candidate) → i < j → j < length xs → precedes (get_or xs i d) (get_or xs j d) ≡ true)
    → Descends xs
by_place [] h = tt
by_place (x ∷ xs) h = (
  recursion_from_All (λ y. precedes x y ≡ true) xs (λ k d lt. h 0 (suc k) d (omega arith) (omega arith)),
  by_place xs (λ i j d lt within. h (suc i) (suc j) d (omega arith) (omega arith)),
)

-- beginning alike is the same both ways
pub alike-symm : (a b : Candidate) → begin_alike a b ≡ begin_alike b a
alike-symm a b = grind (arith, ints, nat_list_eq_equiv, int_eq_equiv)

-- if candidates that are apart are put in order, each precedes all after it
pub descends : (all xs : List Candidate) → IsPermutation all xs → IsSorted full_cmp xs → AreApart all → Descends xs
descends all xs p up apart = by_place xs (λ i j d lt within.
    listed_first (get_or xs i d) (get_or xs j d)
    (sorted_far (λ y z. is_lt (full_cmp y z)) (ranks_by full_cmp_total (λ c. c)) xs up i j d (omega arith) within)
    (apart_from_distinct begin_alike xs i j d (IsDistinct-IsPermutation begin_alike alike-symm all xs p apart)
    lt within))

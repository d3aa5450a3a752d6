-- The candidates of a query in order, and the rank of each.
use Rattle.std.proofs.Common.{◌≡◌, ℕ, zero, suc, Bool, true, false, List, [], ◌∷◌, length, take, Some, refl, sym}
use Rattle.std.proofs.Common.{ap, ◌∙◌, subst, ◌||◌}
use Rattle.std.specs.Prelude.{slice_get, ◌==◌}
use Rattle.std.specs.List.Sorted.{IsPermutation}
use Rattle.std.specs.Ordering.{is_le, is_eq, int_cmp, nat_cmp, ordering_then}
use Rattle.std.specs.declared.cmp.Ordering.{Ordering}
use Rattle.std.specs.Cmp.{tied_then}
use Rattle.std.specs.Cmp.Lexicographic.{slice_cmp}
use Rattle.std.proofs.lemmas.Bool.{eqb-true, and_parts}
use Rattle.std.proofs.lemmas.Bool.Decides.{Decides-int_eq}
use Rattle.std.proofs.lemmas.Cmp.{tied_itself}
use Rattle.std.proofs.lemmas.Map.Text.{is_eq-slice_cmp}
use Rattle.std.proofs.lemmas.List.Sorted.{list_any-IsPermutation, length_permutation}
use Rattle.ghcn_fields.specs.Sorting.{sorted_by}
use Rattle.ghcn_files.proofs.IdLaws.{same_id-is}
use Rattle.ghcn_series.proofs.Members.{found_in}
use Rattle.rank_scores.specs.declared.candidate.Candidate.{Candidate}
use Rattle.rank_scores.specs.Meaning.Order.{precedes, rank_cmp}
use Rattle.rank_scores.specs.Order.{full_cmp, rank_in, best, begin_alike, AreApart}
use Rattle.rank_scores.proofs.Listing.{full_cmp_total, tied_alike, alike-symm}
use Rattle.rank_scores.proofs.Ranks.{rank_cmp_total, Descends, of_rank-is, best-is}
use Rattle.rank_check.specs.Tests.{is_one_of}
use Rattle.ghcn_files.proofs.Ordered.{sorted-permutation, sorted-rise}
use Rattle.ghcn_series.proofs.ListFacts.{from_all}

-- the first of two in order, or they tie
abbrev stands_first : Candidate → Candidate → Bool
stands_first a b = is_le (rank_cmp a b)

-- comparisons one after the other that tie
both_tie : (o p : Ordering) → is_eq (ordering_then o p) ≡ true → (is_eq o ≡ true) × (is_eq p ≡ true)
both_tie o p e = and_parts (is_eq o) (is_eq p) (tied_then o p ∙ e)

-- candidates in order
abbrev pub in_order : List Candidate → List Candidate
in_order all = sorted_by stands_first all

-- they are those that were put in order
pub ordered-permutation : (all : List Candidate) → IsPermutation all (in_order all)
ordered-permutation all = sorted-permutation stands_first all

-- if no two begin alike, each precedes all after it
pub ordered-descends : (all : List Candidate) → AreApart all → Descends (in_order all)
ordered-descends =
    sorted-rise rank_cmp rank_cmp_total stands_first (λ a b. refl) begin_alike alike-symm tied_alike

-- ---- the one at a place

-- candidates that tie in all four parts are the same
pub same_from_tie : (a b : Candidate) → is_eq (full_cmp a b) ≡ true → a ≡ b
same_from_tie a b e =
    let ids = slice_cmp nat_cmp a.id.0 b.id.0 in
    let whole = both_tie (rank_cmp a b) (int_cmp a.last b.last) e in
    let ranks = both_tie (int_cmp b.score a.score) (ordering_then ids (int_cmp a.first b.first)) whole.0 in
    let rest = both_tie ids (int_cmp a.first b.first) ranks.1 in
    let id : a.id ≡ b.id = same_id-is a.id b.id (sym (is_eq-slice_cmp (a.id.0) (b.id.0)) ∙ rest.0) in
    let first : a.first ≡ b.first = (Decides-int_eq a.first b.first).0 rest.1 in
    let last : a.last ≡ b.last = (Decides-int_eq a.last b.last).0 whole.1 in
    let score : a.score ≡ b.score = sym ((Decides-int_eq b.score a.score).0 ranks.0) in
    λ i. record { id = id i; first = first i; last = last i; score = score i }

-- each ties with itself
pub own_tie : (c : Candidate) → is_eq (full_cmp c c) ≡ true
own_tie c = ap is_eq (tied_itself full_cmp_total c)

-- what is among some has a place there
pub place_among : (xs : List Candidate) (c : Candidate) → is_one_of xs c ≡ true → (i : ℕ) × (slice_get xs i ≡ Some c)
place_among [] c e = absurd cc
place_among (x ∷ xs) c e =
    elim (is_eq (full_cmp x c)) as (λ b. is_eq (full_cmp x c) ≡ b → (b || is_one_of xs c) ≡ true
    → (i : ℕ) × (slice_get (x ∷ xs) i ≡ Some c)) [
      | true ↦ λ t f. (0, ap (λ (d : Candidate). Some d) (same_from_tie x c t))
      | false ↦ λ t f. let rest = place_among xs c f in (suc rest.0, rest.1)
    ] refl e

-- what has a place is among them
pub among_at : (xs : List Candidate) (i : ℕ) (c : Candidate) → slice_get xs i ≡ Some c → is_one_of xs c ≡ true
among_at [] i c e = absurd cc
among_at (x ∷ xs) zero c e =
    let same : x ≡ c = cc in
    ap (λ (b : Bool). b || is_one_of xs c) (ap (λ (d : Candidate). is_eq (full_cmp d c)) same ∙ own_tie c)
among_at (x ∷ xs) (suc i) c e =
    elim (is_eq (full_cmp x c)) as (λ b. (b || is_one_of xs c) ≡ true) [ true ↦ refl | false ↦ among_at xs i c e ]

module _ (all : List Candidate) (apart : AreApart all) where
  -- the rank is the place in order
  pub rank_at : (i : ℕ) (c : Candidate) → slice_get (in_order all) i ≡ Some c → (rank_in all c == i) ≡ true
  rank_at i c e = (found_in (λ d. rank_in all d == i) all c
      (of_rank-is all (in_order all) (ordered-permutation all) (ordered-descends all apart) i ∙ e)).1

  -- a candidate of a rank is at that place in order
  pub at_rank : (i : ℕ) (c : Candidate) → is_one_of all c ≡ true → (rank_in all c == i) ≡ true
      → slice_get (in_order all) i ≡ Some c
  at_rank i c among rank =
      let sorted : List Candidate = in_order all in
      let there = place_among sorted c
      (sym (list_any-IsPermutation (λ d. is_eq (full_cmp d c)) all sorted (ordered-permutation all)) ∙ among) in
      let own : rank_in all c ≡ there.0 = eqb-true _ _ (rank_at there.0 c there.1) in
      let asked : rank_in all c ≡ i = eqb-true _ _ rank in
      ap (slice_get sorted) (sym asked ∙ own) ∙ there.1

  -- what is at a place in order is a candidate
  pub among : (i : ℕ) (c : Candidate) → slice_get (in_order all) i ≡ Some c → is_one_of all c ≡ true
  among i c e =
      list_any-IsPermutation (λ d. is_eq (full_cmp d c)) all (in_order all) (ordered-permutation all)
      ∙ among_at (in_order all) i c e

  -- the best are the first in order
  pub best_first : (k : ℕ) → best k all ≡ take k (in_order all)
  best_first k = best-is all (in_order all) (ordered-permutation all) (ordered-descends all apart) k

  -- there are as many in order as before
  pub ordered-length : length (in_order all) ≡ length all
  ordered-length = length_permutation all (in_order all) (ordered-permutation all)

-- each but the first is preceded by the one before it
pub one_precedes : (xs : List Candidate) (i : ℕ) (a b : Candidate) → Descends xs → slice_get xs i ≡ Some a
    → slice_get xs (suc i) ≡ Some b → precedes a b ≡ true
one_precedes [] i a b d e f = absurd cc
one_precedes (x ∷ xs) zero a b d e f =
    let same : x ≡ a = cc in
    subst (λ (y : Candidate). precedes y b ≡ true) same (from_all (λ y. precedes x y ≡ true) xs 0 b d.0 f)
one_precedes (x ∷ xs) (suc i) a b d e f = one_precedes xs i a b d.1 e f

-- The order of listing distinguishes any two candidates, and what is in order stays so.
use Rattle.std.proofs.Common.{◌≡◌, ℕ, zero, suc, Bool, true, false, List, [], ◌∷◌, take, refl, sym, ap, ◌∙◌, arith}
use Rattle.std.specs.List.{AllByRecursion}
use Rattle.std.specs.declared.cmp.Ordering.{Ordering}
use Rattle.std.specs.declared.cmp.Ordering.TheVariants.{Equal}
use Rattle.std.specs.Ordering.{is_le, int_cmp, nat_cmp, ordering_then, ordering_reverse}
use Rattle.std.specs.Cmp.Lexicographic.{slice_cmp}
use Rattle.std.proofs.lemmas.Bool.{false_from_ne_true, true_from_ne_false}
use Rattle.std.proofs.lemmas.List.Elements.{recursion_from_All, All-from_recursion}
use Rattle.std.proofs.lemmas.List.Sorted.{All-permutation}
use Rattle.std.proofs.lemmas.Map.Lookups.{exact_signed, exact_bytes}
use Rattle.ghcn_fields.specs.Sorting.{placed, sorted_by}
use Rattle.ghcn_files.proofs.Ordered as ordered
use Rattle.rank_scores.specs.declared.candidate.Candidate.{Candidate}
use Rattle.rank_scores.specs.Order.{full_cmp}
use Rattle.rank_scores.proofs.Listing.{full_cmp_total}
use Rattle.rank_pool.specs.First.{comes_first, in_order}

-- ---- two candidates

-- results that are Equal together are Equal each
all_equal : (s i f l : Ordering) → ordering_then (ordering_then s (ordering_then i f)) l ≡ Equal
    → (s ≡ Equal) × (i ≡ Equal) × (f ≡ Equal) × (l ≡ Equal)
all_equal s i f l e = grind arith

-- two that are each at most the other tie
tied : (o p : Ordering) → o ≡ ordering_reverse p → is_le o ≡ true → is_le p ≡ true → o ≡ Equal
tied o p e h k = grind arith

-- if each of two comes first, they are the same
pub same_place : (a b : Candidate) → comes_first a b ≡ true → comes_first b a ≡ true → a ≡ b
same_place a b e f =
    let parts = all_equal (int_cmp b.score a.score) (slice_cmp nat_cmp a.id.0 b.id.0) (int_cmp a.first b.first)
    (int_cmp a.last b.last) (tied (full_cmp a b) (full_cmp b a) (full_cmp_total.antisymm a b) e f) in
    let score : a.score ≡ b.score = sym (exact_signed b.score a.score parts.0) in
    let bytes : a.id.0 ≡ b.id.0 = exact_bytes (a.id.0) (b.id.0) parts.1 in
    let begins : a.first ≡ b.first = exact_signed a.first b.first parts.2 in
    let ends : a.last ≡ b.last = exact_signed a.last b.last parts.3 in
    λ i. record { id = record { 0 = bytes i }; first = begins i; last = ends i; score = score i }

-- of two candidates one comes first
pub one_first : (a b : Candidate) → comes_first a b ≡ false → comes_first b a ≡ true
one_first = ordered.first_either full_cmp full_cmp_total comes_first (λ a b. refl)

-- what comes before what comes before comes before
pub first_trans : (a b c : Candidate) → comes_first a b ≡ true → comes_first b c ≡ true → comes_first a c ≡ true
first_trans = ordered.first_trans full_cmp full_cmp_total comes_first (λ a b. refl)

-- a candidate comes first of itself
pub first_itself : (a : Candidate) → comes_first a a ≡ true
first_itself a = true_from_ne_false _ (λ e. let there = one_first a a e in cc)

-- what doesn't come before one doesn't come before what comes before that one
pub not_first : (a b c : Candidate) → comes_first a b ≡ true → comes_first c b ≡ false → comes_first c a ≡ false
not_first a b c e f = false_from_ne_true _ (λ h. let there = first_trans c a b h e in cc)

-- ---- lists in turn

-- each comes before all after it
abbrev pub InTurn : List Candidate → Type 0
InTurn = ordered.InTurn full_cmp full_cmp_total comes_first (λ a b. refl)

-- what was put in order is in turn
pub in_order-turn : (xs : List Candidate) → InTurn (in_order xs)
in_order-turn = ordered.sorted-in_turn full_cmp full_cmp_total comes_first (λ a b. refl)

module _ {X : Type 0} (first : X → X → Bool) where
  -- what comes before all of some is placed in front of them
  placed-front : (x : X) (ys : List X) → AllByRecursion (λ y. first x y ≡ true) ys → placed first x ys ≡ x ∷ ys
  placed-front x [] h = refl
  placed-front x (y ∷ ys) h = grind arith

  -- what is in turn stays as it is
  pub sorted-fixed : (xs : List X) → ordered.Descend (λ a b. first a b ≡ true) xs → sorted_by first xs ≡ xs
  sorted-fixed [] h = refl
  sorted-fixed (x ∷ xs) h = ap (placed first x) (sorted-fixed xs h.1) ∙ placed-front x xs h.0

  -- what is true of all is true of them in order
  pub sorted-all : (P : X → Type 0) (xs : List X) → AllByRecursion P xs → AllByRecursion P (sorted_by first xs)
  sorted-all P xs h = recursion_from_All P (sorted_by first xs)
      (All-permutation P xs (sorted_by first xs) (ordered.sorted-permutation first xs) (All-from_recursion P xs h))

-- what is true of all is true of the first
pub take-all : {X : Type 0} (P : X → Type 0) (k : ℕ) (xs : List X) → AllByRecursion P xs
    → AllByRecursion P (take k xs)
take-all P zero xs h = tt
take-all P (suc k) [] h = tt
take-all P (suc k) (x ∷ xs) h = (h.0, take-all P k xs h.1)

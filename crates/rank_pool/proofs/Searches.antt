-- The place of a candidate among others that are in order.
use Rattle.std.proofs.Common.{◌≡◌, ℕ, zero, suc, ◌+◌, ◌-◌, ◌<◌, ◌≤◌, true, false, not, List, [], ◌∷◌, length, get_or}
use Rattle.std.proofs.Common.{refl, ap, ◌∙◌, subst, arith}
use Rattle.std.specs.Prelude.{insert}
use Rattle.std.specs.List.Sorted.{IsPartitionedBy}
use Rattle.std.specs.Ordering.{is_lt}
use Rattle.std.proofs.lemmas.Bool.{false_from_ne_true}
use Rattle.ghcn_fields.specs.Sorting.{placed}
use Rattle.rank_scores.specs.declared.candidate.Candidate.{Candidate}
use Rattle.rank_scores.specs.Order.{full_cmp}
use Rattle.rank_pool.specs.First.{comes_first, in_order}
use Rattle.rank_pool.proofs.Orders.{InTurn, in_order-turn, not_first, first_itself}
use Rattle.rank_pool.proofs.Ranked.{listed_before, in_turn-far}

-- it is at the front of those that it isn't listed after, if it is listed after all before them
pub placed_at : (x : Candidate) (ys : List Candidate) (n : ℕ) → n ≤ length ys
    → ((k : ℕ) → k < n → comes_first x (get_or ys k x) ≡ false) → (n < length ys → comes_first x (get_or ys n x) ≡ true)
    → insert ys n x ≡ placed comes_first x ys
placed_at x [] zero within before after = refl
placed_at x [] (suc n) within before after = absurd (omega arith)
placed_at x (y ∷ ys) zero within before after = let here = after (omega arith) in grind arith
placed_at x (y ∷ ys) (suc n) within before after =
    let here = before 0 (omega arith) in
    let rest = placed_at x ys n (omega arith) (λ k h. before (suc k) (omega arith)) (λ h. after (omega arith)) in
    grind arith

-- what is listed before x doesn't have x first
pub listed : (y x : Candidate) → is_lt (full_cmp y x) ≡ true → comes_first x y ≡ false
listed y x e = let same = listed_before y x in grind arith

-- and what isn't has
pub not_listed : (y x : Candidate) → is_lt (full_cmp y x) ≡ false → comes_first x y ≡ true
not_listed y x e = let same = listed_before y x in grind arith

-- candidates in order have in front those that are listed before x
pub before-parts : (x : Candidate) (ys : List Candidate) → in_order ys ≡ ys
    → IsPartitionedBy (λ y. is_lt (full_cmp y x)) ys
before-parts x ys order = λ i j d le h e.
    let far = in_turn-far ys d i j (subst InTurn order (in_order-turn ys)) le h in
    listed_before (get_or ys i d) x
    ∙ ap not (not_first (get_or ys i d) (get_or ys j d) x far (listed (get_or ys j d) x e))

-- if x is listed after the last of some in order, its place is after them all
pub placed-last : (x : Candidate) (ys : List Candidate) (n : ℕ) → in_order ys ≡ ys → n ≡ length ys
    → is_lt (full_cmp (get_or ys (length ys - 1) x) x) ≡ true → insert ys n x ≡ placed comes_first x ys
placed-last x ys n order end e =
    placed_at x ys n (omega arith)
    (λ k h. listed (get_or ys k x) x (before-parts x ys order k (length ys - 1) x (omega arith) (omega arith) e))
    (λ h. absurd (omega arith))

-- ---- a search by halves

-- what is before the low place is listed before x, and what is from the high one on isn't
pub record IsBetween (x : Candidate) (ys : List Candidate) (low high : ℕ) : Type 0 where
  pub order : low ≤ high
  pub within : high ≤ length ys
  pub before : (k : ℕ) → k < low → is_lt (full_cmp (get_or ys k x) x) ≡ true
  pub behind : (k : ℕ) → high ≤ k → k < length ys → is_lt (full_cmp (get_or ys k x) x) ≡ false

-- what is listed after the first one has a place after it
pub between_first : (x : Candidate) (ys : List Candidate) → comes_first x (get_or ys 0 x) ≡ false
    → IsBetween x ys 1 (length ys)
between_first x [] e = absurd (let own = first_itself x in cc)
between_first x (y ∷ ys) e = record {
  order = omega arith;
  within = omega arith;
  before = first;
  behind = λ k low lt. absurd (omega arith);
}
  where
    first : (k : ℕ) → k < 1 → is_lt (full_cmp (get_or (y ∷ ys) k x) x) ≡ true
    first zero lt = listed_before y x ∙ ap not e
    first (suc k) lt = absurd (omega arith)

module _ (x : Candidate) (ys : List Candidate) (order : in_order ys ≡ ys) (low middle high : ℕ)
    (between : IsBetween x ys low high) (above : low ≤ middle) (below : middle < high) where
  -- if the one in the middle is listed before x, so are all before it
  pub between_high : is_lt (full_cmp (get_or ys middle x) x) ≡ true → IsBetween x ys (middle + 1) high
  between_high e = record {
    order = omega arith;
    within = between.within;
    before = λ k lt.
        before-parts x ys order k middle x (omega arith) (omega (arith, between.within)) e;
    behind = between.behind;
  }

  -- if it isn't, none after it is
  pub between_low : is_lt (full_cmp (get_or ys middle x) x) ≡ false → IsBetween x ys low middle
  between_low e = record {
    order = above;
    within = omega (arith, between.within);
    before = between.before;
    behind = λ k le lt. false_from_ne_true _
        (λ h. let front = before-parts x ys order middle k x le lt h in cc);
  }

-- if both places are one, it is that of x
pub between_placed : (x : Candidate) (ys : List Candidate) (n high : ℕ) → IsBetween x ys n high → high ≤ n
    → insert ys n x ≡ placed comes_first x ys
between_placed x ys n high between end =
    placed_at x ys n (omega (arith, between.order, between.within))
    (λ k h. listed (get_or ys k x) x (between.before k h))
    (λ h. not_listed (get_or ys n x) x (between.behind n end h))

-- One more summary of a list, as a loop comes to it.
use Rattle.rank_blocks.proofs.Cited.{◌≡◌, ℕ, zero, suc, ◌+◌, ◌-◌, ◌*◌, ◌<◌, ◌≤◌, true, false, List, [], ◌∷◌, ◌++◌, map}
use Rattle.rank_blocks.proofs.Cited.{length, take, drop, Option, Some, refl, sym, ap, subst, arith, rules, ℤ, pos}
use Rattle.rank_blocks.proofs.Cited.{neg_ℤ, ◌≤ℤ◌, ◌<ℤ◌, ◌+ℤ◌, to_z, of_z, w64, int_le, All, int_cmp, int_eq, append-nil}
use Rattle.rank_blocks.proofs.Cited.{int_max, list_any, IsStrictlySortedBy, Decides-int_eq, ints, clamps, map-append}
use Rattle.rank_blocks.proofs.Cited.{drop_more, take_all, length-drop, All-from_recursion, All-get_or, All-more}
use Rattle.rank_blocks.proofs.Cited.{All-weaker, All-contains, filter_more, greatest, BlockRange, Summary, is_among_blocks}
use Rattle.rank_blocks.proofs.Cited.{IsGreatest, IsNear, IsTotalFrom, in_range, summaries_in, summaries_total}
use Rattle.rank_blocks.proofs.Cited.{ArePossible, from_each, cases_Bool, inl, inr, AllByRecursion}
use Rattle.rank_blocks.proofs.Members.{any_in, any_of, total-wider, total-cons}
use Rattle.rank_blocks.proofs.DaysInBlocks.{distance}
use Rattle.rank_blocks.proofs.PossibleBlocks.{no_block, block_at, sorted-behind, sorted-tail, possible-at}
use Rattle.rank_blocks.proofs.PossibleBlocks.{possible-drop, AreBehind, AreFalls}
use Rattle.ghcn_series.proofs.BlockExtremes.{max-one}

-- what is left from a place on is the summary there and what is left after it
pub left-at : (ms : List Summary) (i : ℕ) → i < length ms → drop i ms ≡ block_at ms i ∷ drop (i + 1) ms
left-at ms i lt = drop_more ms i no_block lt

-- what is left is taken whole
pub left-whole : (ms : List Summary) (i : ℕ) → take (length ms - i) (drop i ms) ≡ drop i ms
left-whole ms i = take_all (length ms - i) (drop i ms) (let len = length-drop i ms in omega arith)

-- what is left after a summary has greater numbers
pub behind-left : (ms : List Summary) (i : ℕ) → i < length ms → ArePossible ms
    → AreBehind (block_at ms i).number (drop (i + 1) ms)
behind-left ms i lt h = grind (arith, ints, left-at ms i lt, possible-drop ms i h, sorted-behind)

-- ---- the greatest day

-- what a measure makes of the summaries before a place whose blocks lie in the range
abbrev pub made : (Summary → ℤ) → BlockRange → List Summary → ℕ → List ℤ
made f r ms i = map f (summaries_in r (take i ms))

module _ (f : Summary → ℤ) (r : BlockRange) (ms : List Summary) (i : ℕ) (lt : i < length ms) where
  -- the greatest with a summary of the range
  pub greatest-in : (found : Option ℤ) (z next : ℤ) → in_range r (block_at ms i).number ≡ true
      → greatest (made f r ms i) ≡ found
      → f (block_at ms i) ≡ z → ((zs : List ℤ) → greatest zs ≡ found → greatest (zs ++ z ∷ []) ≡ Some next)
      → greatest (made f r ms (i + 1)) ≡ Some next
  greatest-in found z next holds so_far is greater =
      let more = filter_more (λ m. in_range r m.number) ms i no_block lt in
      grind (arith, ints, more, map-append f (summaries_in r (take i ms)) (block_at ms i ∷ []))

  -- with another one
  pub greatest-out : in_range r (block_at ms i).number ≡ false → greatest (made f r ms (i + 1)) ≡ greatest
      (made f r ms i)
  greatest-out out =
      let more = filter_more (λ m. in_range r m.number) ms i no_block lt in
      grind (arith, ints, more, append-nil (summaries_in r (take i ms)))

-- a score that days can have is read as it was written
pub near-read : (z : ℤ) → IsNear z → to_z w64 (of_z w64 z) ≡ z
near-read z near = grind (arith, ints)

-- ---- totals

-- if all blocks come after a window, its total is zero
total-behind : (ms : List Summary) (w : ℕ) (first : ℤ) → AllByRecursion (λ m. (first +ℤ pos w) ≤ℤ m.number) ms
    → summaries_total ms w first ≡ pos 0
total-behind [] w first h = refl
total-behind (m ∷ ms) w first h = grind (arith, ints, total-behind ms w first h.1)

-- a sum is that of the blocks of a window before a place of the summaries
pub record IsSumTo (ms : List Summary) (w : ℕ) (first : ℤ) (i : ℕ) (sum : ℤ) : Type 0 where
  pub low : neg_ℤ (pos (68_719_476_736 * i)) ≤ℤ sum
  pub high : sum ≤ℤ pos (68_719_476_736 * i)
  pub whole : (sum +ℤ summaries_total (drop i ms) w first) ≡ summaries_total ms w first

module _ (ms : List Summary) (possible : ArePossible ms) (w : ℕ) (first : ℤ) (i : ℕ) (lt : i < length ms) (sum : ℤ)
    (far : IsSumTo ms w first i sum) where
  -- what is to come, from the summary at the place on
  left-total : summaries_total (drop i ms) w first ≡ summaries_total (block_at ms i ∷ drop (i + 1) ms) w first
  left-total = ap (λ ks. summaries_total ks w first) (left-at ms i lt)

  -- with the summary at the place the sum stays in bounds
  pub sum-bounds : (neg_ℤ (pos (68_719_476_736 * (i + 1))) ≤ℤ (sum +ℤ (block_at ms i).total))
      × ((sum +ℤ (block_at ms i).total) ≤ℤ pos (68_719_476_736 * (i + 1)))
  sum-bounds = grind (arith, ints, possible-at ms i lt possible)

  -- a block of the window is added
  pub sum-in : (next : ℤ) → next ≡ sum +ℤ (block_at ms i).total → is_among_blocks first w (block_at ms i).number ≡ true
      → IsSumTo ms w first (i + 1) next
  sum-in next is among = search (rules, arith, sum-bounds, left-total, total-cons)

  -- another block isn't
  pub sum-out : (next : ℤ) → next ≡ sum → is_among_blocks first w (block_at ms i).number ≡ false
      → IsSumTo ms w first (i + 1) next
  sum-out next is out = grind (arith, ints, left-total)

  -- after the window nothing is left to add up
  pub sum-past : int_le (first +ℤ pos w) (block_at ms i).number ≡ true → sum ≡ summaries_total ms w first
  sum-past test =
      let none = total-behind (block_at ms i ∷ drop (i + 1) ms) w first in
      grind (arith, ints, behind-left ms i lt possible, from_each, left-total, none)

-- ---- the greatest total

-- the window from a block of the range on has no more than a number
abbrev pub HasNoMore : BlockRange → ℕ → List Summary → ℤ → Summary → Type 0
HasNoMore r w ms z m = in_range r m.number ≡ true → summaries_total ms w m.number ≤ℤ z

-- what is known of the greatest total, once the summaries before a place were looked at: it is the total of a window of
-- the range, and neither the window from the range's last block nor one from these summaries' blocks has more
pub record IsMostTo (r : BlockRange) (w : ℕ) (ms : List Summary) (i : ℕ) (found : ℤ) : Type 0 where
  pub one : IsTotalFrom r ms w found
  pub last : summaries_total ms w r.last ≤ℤ found
  pub each : All (HasNoMore r w ms found) (take i ms)

-- the window from a block on has what it has of the summaries from that block's on
total-from : (ms : List Summary) (w i : ℕ) → i < length ms → IsStrictlySortedBy int_cmp (map (λ m. m.number) ms)
    → summaries_total (drop i ms) w (block_at ms i).number ≡ summaries_total ms w (block_at ms i).number
total-from [] w i lt sorted = absurd (omega arith)
total-from (m ∷ ms) w zero lt sorted = refl
total-from (m ∷ ms) w (suc i) lt sorted =
    let behind = All-get_or (λ k. m.number <ℤ k.number) ms i no_block (omega arith)
    (All-from_recursion (λ k. m.number <ℤ k.number) ms (sorted-behind m ms sorted)) in
    grind (arith, ints, behind, total-from ms w i, sorted-tail m ms sorted)

module _ (r : BlockRange) (w : ℕ) (ms : List Summary) (i : ℕ) (found : ℤ) (far : IsMostTo r w ms i found) where
  -- the window from a block of the range on is looked at
  pub most-in : ArePossible ms → i < length ms → (next : ℤ)
      → next ≡ int_max found (summaries_total (drop i ms) w (block_at ms i).number)
      → in_range r (block_at ms i).number ≡ true → IsMostTo r w ms (i + 1) next
  most-in possible lt next is holds =
      let whole = total-from ms w i lt possible.by_number in
      record {
        one = max-one (IsTotalFrom r ms w) _ _ next is far.one ((block_at ms i).number, holds, sym whole);
        last = omega (arith, ints, clamps);
        each = All-more (HasNoMore r w ms next) ms i no_block lt
            (All-weaker (HasNoMore r w ms found) (HasNoMore r w ms next)
            (λ m most holds. omega (arith, ints, clamps)) (take i ms) far.each) (λ holds. omega (arith, ints, clamps));
      }

  -- another block changes nothing
  pub most-out : i < length ms → in_range r (block_at ms i).number ≡ false → IsMostTo r w ms (i + 1) found
  most-out lt out = grind (arith, ints, All-more (HasNoMore r w ms found) ms i no_block lt far.each)

  module _ (falls : AreFalls ms) (end : length ms ≤ i) where
    -- no window that begins in the range has more: one that begins at no summary's block has no more than the next one
    no_more : (n : ℕ) (first : ℤ) → r.last ≡ first +ℤ pos n → r.first ≤ℤ first → summaries_total ms w first ≤ℤ found
    no_more zero first is low =
        let same : first ≡ r.last = omega (arith, ints) in
        grind (arith, ints)
    no_more (suc n) first is low =
        elim (cases_Bool (list_any (λ m. int_eq m.number first) ms)) [
          | inl e ↦
              let m = any_in (λ m. int_eq m.number first) ms e in
              let each = subst (All (HasNoMore r w ms found)) (take_all i ms end) far.each in
              let most = All-contains (HasNoMore r w ms found) ms m.0 each m.1 in
              grind (arith, ints, most, (Decides-int_eq m.0.number first).0 m.2)
          | inr e ↦
              let rest = no_more n (first +ℤ pos 1) (omega (arith, ints)) (omega (arith, ints)) in
              let wider = total-wider (λ m. m.total) (λ m. is_among_blocks first w m.number)
              (λ m. is_among_blocks (first +ℤ pos 1) w m.number) ms falls (λ m has among.
              grind (arith, ints, any_of (λ m. int_eq m.number first) ms m has, Decides-int_eq m.number first)) in
              omega (arith, ints)
        ]

    -- after the last block it is the greatest
    pub most-end : IsGreatest (IsTotalFrom r ms w) found
    most-end = record {
      is_one = far.one;
      is_most = λ y total.
          let far_on = distance total.0 r.last (grind (arith, ints, total.1)) in
          grind (arith, ints, no_more far_on.0 total.0 far_on.1, total);
    }

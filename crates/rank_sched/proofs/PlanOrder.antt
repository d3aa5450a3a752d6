-- Morsels in the order in which they are drawn: there is one such list of given morsels.
use Rattle.rank_sched.proofs.Cited.{rules, ◌≡◌, Bool, true, List, [], ◌∷◌, map, arith, IsDistinct, IsPermutation}
use Rattle.rank_sched.proofs.Cited.{IsSortedBy, IsTotalOrder, IsStrictWeakOrder, is_le, is_eq, ordering_then, Ordering}
use Rattle.rank_sched.proofs.Cited.{Equal, nat_list_cmp_total, is_eq-slice_cmp, sorted_by, same_id, Morsel}
use Rattle.rank_sched.proofs.Cited.{is_drawn_first, drawn_cmp, AreDrawnInTurn}
use Rattle.ghcn_files.proofs.Ordered as ordered

-- the order by bound and ID is total
pub drawn_total : IsTotalOrder drawn_cmp
drawn_total = search (rules, nat_list_cmp_total)

-- ---- a morsel is drawn first if the comparison doesn't put it after the other

-- a morsel is drawn first if and only if the comparison doesn't put it after the other
pub drawn-is : (a b : Morsel) → is_drawn_first a b ≡ is_le (drawn_cmp a b)
drawn-is a b = grind arith

-- ---- morsels in turn

-- morsels in turn, as lists in a total order are
abbrev InTurn : List Morsel → Type 0
InTurn ms = ordered.InTurn drawn_cmp drawn_total is_drawn_first drawn-is ms

-- such morsels are drawn in turn
drawn_turn : (ms : List Morsel) → InTurn ms → AreDrawnInTurn ms
drawn_turn [] h = tt
drawn_turn (m ∷ ms) h = (h.0, drawn_turn ms h.1)

-- and morsels that are drawn in turn are such
turn_drawn : (ms : List Morsel) → AreDrawnInTurn ms → InTurn ms
turn_drawn [] h = tt
turn_drawn (m ∷ ms) h = (h.0, turn_drawn ms h.1)

-- what is sorted is drawn in turn
pub sorted-in_turn : (ms : List Morsel) → AreDrawnInTurn (sorted_by is_drawn_first ms)
sorted-in_turn ms = drawn_turn (sorted_by is_drawn_first ms)
    (ordered.sorted-in_turn drawn_cmp drawn_total is_drawn_first drawn-is ms)

module _ {X : Type 0} (seen : X → Morsel) where
  -- one is strictly before another
  abbrev pub strictly : X → X → Bool
  strictly = ordered.strictly drawn_cmp drawn_total is_drawn_first drawn-is seen

  -- that is an order
  pub strictly_ranks : IsStrictWeakOrder strictly
  strictly_ranks = grind (arith, drawn_total)

  -- what a sort by the comparison returns is drawn in turn
  pub sort-in_turn : (xs : List X) → IsSortedBy strictly xs → AreDrawnInTurn (map seen xs)
  sort-in_turn xs up = drawn_turn (map seen xs)
      (ordered.sort-in_turn drawn_cmp drawn_total is_drawn_first drawn-is seen xs up)

-- ---- morsels with IDs of their own

-- two morsels belong to one station
abbrev pub of_one_station : Morsel → Morsel → Bool
of_one_station a b = same_id a.series.id b.series.id

-- which of two morsels is named first makes no difference
pub of_one_station-symm : (a b : Morsel) → of_one_station a b ≡ of_one_station b a
of_one_station-symm a b = search rules

-- a comparison that ties in the end ties in its last part
same_by_id : (s i : Ordering) → ordering_then s i ≡ Equal → is_eq i ≡ true
same_by_id s i e = grind arith

-- morsels that tie belong to one station
station_tied : (a b : Morsel) → drawn_cmp a b ≡ Equal → of_one_station a b ≡ true
station_tied a b e = grind (arith, is_eq-slice_cmp, same_by_id)

-- of morsels of different stations there is one list in which they are drawn
pub one_order : (xs ys : List Morsel) → IsDistinct of_one_station xs → IsPermutation xs ys → AreDrawnInTurn ys
    → ys ≡ sorted_by is_drawn_first xs
one_order xs ys d p h = ordered.one_order drawn_cmp drawn_total is_drawn_first drawn-is of_one_station
    of_one_station-symm station_tied xs ys d p (turn_drawn ys h)

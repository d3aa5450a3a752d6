-- Days in their order.
use Rattle.ghcn_series.proofs.Cited.{◌≡◌, true, List, [], ◌∷◌, sym, ◌∙◌, arith, ℤ, ◌↔◌, int_le, Ordering, Less, Equal}
use Rattle.ghcn_series.proofs.Cited.{int_cmp, int_eq, is_le, is_lt, IsTotalOrder, Contains, IsDistinct}
use Rattle.ghcn_series.proofs.Cited.{IsStrictlySortedBy, keys_of, lookup, Decides-int_eq, int_cmp_total, int_eq_equiv}
use Rattle.ghcn_series.proofs.Cited.{int_ranked, ints, Contains-permutation, IsPermutation-sym, sorted_by, DayValue}
use Rattle.ghcn_series.proofs.Cited.{value_on, by_day, AreRising}
use Rattle.std.proofs.lemmas.Cmp.{on_total}
use Rattle.std.proofs.lemmas.Map.Views.{Contains-from_lookup, lookup-from_Contains}
use Rattle.ghcn_files.proofs.Ordered as ordered
use Rattle.ghcn_series.proofs.Lookups.{int_eq-yes}
use Rattle.ghcn_series.proofs.RisingDays.{keys-rise, same-from_values}
use Rattle.ghcn_series.proofs.ApartParts.{rising-distinct}
pub use Rattle.ghcn_series.proofs.ApartParts.{lookup-is}
use Rattle.ghcn_series.proofs.SaidNumbers.{same_option}

-- ---- the order of days

-- days by their numbers
abbrev by_number : DayValue → DayValue → Ordering
by_number a b = int_cmp a.0 b.0

-- that is a total order
by_number-total : IsTotalOrder by_number
by_number-total = on_total (λ (x : DayValue). x.0) int_cmp_total

-- a number that is at most another
le-is : (a b : ℤ) → int_le a b ≡ is_le (int_cmp a b)
le-is a b = grind (arith, ints)

-- days that tie have one number
tied : (a b : DayValue) → by_number a b ≡ Equal → int_eq a.0 b.0 ≡ true
tied a b e = int_eq-yes a.0 b.0 (int_ranked a.0 b.0 Equal (sym e))

-- numbers of which each is less than all after it are in order
in_order : (ks : List ℤ) → ordered.Descend (λ j k. int_cmp j k ≡ Less) ks → IsStrictlySortedBy int_cmp ks
unfolding IsStrictlySortedBy
in_order [] h = tt
in_order (k ∷ ks) h = (h.0, in_order ks h.1)

-- different days in their order rise
pub sorted_by-rises : (xs : List DayValue) → IsDistinct int_eq (keys_of xs)
    → IsStrictlySortedBy int_cmp (keys_of (sorted_by by_day xs))
sorted_by-rises xs distinct =
    let days : List DayValue = sorted_by by_day xs in
    let rise = ordered.sorted-rise by_number by_number-total by_day (λ a b. le-is a.0 b.0)
    (λ (a b : DayValue). int_eq a.0 b.0) (λ a b. int_eq_equiv.symm a.0 b.0) tied xs
    (ordered.distinct-mapped (λ (x : DayValue). x.0) int_eq xs distinct) in
    in_order (keys_of days) (ordered.descend-map (λ (x : DayValue). x.0) (λ j k. int_cmp j k ≡ Less) days
    (ordered.descend-weaker (λ (a b : DayValue). is_lt (by_number a b) ≡ true)
    (λ (a b : DayValue). by_number a b ≡ Less) days (λ a b. ordered.less (by_number a b)) rise))

-- ---- the values of days

-- equal days are the same
exact : (x y : ℤ) → int_eq x y ≡ true → x ≡ y
exact x y = (Decides-int_eq x y).0

-- in two lists of the same days and values, in which no day occurs twice, a day has the same value
pub same-values : (xs ys : List DayValue) → IsDistinct int_eq (keys_of xs) → IsDistinct int_eq (keys_of ys)
    → ((day value : ℤ) → Contains xs (day, value) ↔ Contains ys (day, value)) → (d : ℤ) → value_on xs d ≡ value_on ys d
same-values xs ys one other same d = sym (lookup-is d xs) ∙ same_option (lookup (int_eq d) xs) (lookup (int_eq d) ys)
    (λ v at. lookup-from_Contains int_eq_equiv d v ys other ((same d v).0 (Contains-from_lookup exact d v xs at)))
    (λ v at. lookup-from_Contains int_eq_equiv d v xs one ((same d v).1 (Contains-from_lookup exact d v ys at)))
    ∙ lookup-is d ys

-- distinct days in order rise
sorted-rise : (xs : List DayValue) → IsDistinct int_eq (keys_of xs) → AreRising (sorted_by by_day xs)
sorted-rise xs distinct = keys-rise (sorted_by by_day xs) (sorted_by-rises xs distinct)

-- and the values that they had
value-sorted : (xs : List DayValue) → IsDistinct int_eq (keys_of xs) → (q : ℤ)
    → value_on (sorted_by by_day xs) q ≡ value_on xs q
value-sorted xs distinct =
    let days : List DayValue = sorted_by by_day xs in let moved = ordered.sorted-permutation by_day xs in
    same-values days xs (rising-distinct days (sorted-rise xs distinct)) distinct (λ day value. (
      Contains-permutation days xs (day, value) (IsPermutation-sym xs days moved),
      Contains-permutation xs days (day, value) moved,
    ))

-- rising days with the values of distinct days are these in their order
pub sorted-are : (xs days : List DayValue) → IsDistinct int_eq (keys_of xs) → AreRising days
    → ((d : ℤ) → value_on days d ≡ value_on xs d) → days ≡ sorted_by by_day xs
sorted-are xs days distinct rise same = same-from_values days (sorted_by by_day xs) rise (sorted-rise xs distinct)
    (λ d. same d ∙ sym (value-sorted xs distinct d))

-- distinct days with the same values have one order
pub sorted-same : (xs ys : List DayValue) → IsDistinct int_eq (keys_of xs) → IsDistinct int_eq (keys_of ys)
    → ((d : ℤ) → value_on xs d ≡ value_on ys d) → sorted_by by_day xs ≡ sorted_by by_day ys
sorted-same xs ys one other same =
    sorted-are ys (sorted_by by_day xs) other (sorted-rise xs one) (λ d. value-sorted xs one d ∙ same d)

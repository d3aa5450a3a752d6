-- A gathering becomes a series.
use Rattle.ghcn_series.proofs.Cited.{◌≡◌, ℕ, ◌+◌, Bool, true, false, List, [], ◌∷◌, length, None, Some, refl, ap, ◌∙◌}
use Rattle.ghcn_series.proofs.Cited.{arith, ℤ, ◌==◌, ◌&&◌, Less, int_cmp, int_eq, filter_map, flat_map, enumerate_from}
use Rattle.ghcn_series.proofs.Cited.{cons_option, list_all, IsDistinct, AllByRecursion, IsStrictlySortedBy, keys_of}
use Rattle.ghcn_series.proofs.Cited.{ints, list_all-append, and_from, and_parts, eqb-false, All-permutation}
use Rattle.ghcn_series.proofs.Cited.{sorted-permutation, is_day, day_number, sorted_by, is_day-from_civil, StationId}
use Rattle.ghcn_series.proofs.Cited.{Element, Month, Reading, IsMonth, Gathering, DayValue, IsSeries, by_day, is_by_day}
use Rattle.ghcn_series.proofs.Cited.{usable_day, usable_days, kept_days, same_time, gathered_days, IsGathering, IsReady}
use Rattle.std.proofs.lemmas.List.Sorted.{length_permutation}
use Rattle.std.proofs.lemmas.List.Sums.{list_all-from_AllPass, AllPass-from_list_all}
use Rattle.ghcn_files.specs.Months.{is_reading}
use Rattle.ghcn_series.specs.Series.{is_value}
use Rattle.ghcn_series.proofs.MonthDays.{has_number, civil_of}
use Rattle.ghcn_series.proofs.ApartParts.{apart-distinct}
use Rattle.ghcn_series.proofs.DistinctDays.{distinct_days, parts_of}
use Rattle.ghcn_series.proofs.SortedDays.{sorted_by-rises, sorted-same}

-- a day that a series can have
abbrev pub IsDayOf : Element → DayValue → Bool
IsDayOf e x = is_day x.0 && is_value e x.1

-- a day that has a number is a day
pub is_day-numbered : (y m d : ℕ) (n : ℤ) → day_number y m d ≡ Some n → is_day n ≡ true
is_day-numbered y m d n e =
    let has = has_number y m d n e in ap is_day has.1 ∙ is_day-from_civil y m d (civil_of y m d has.0) has.0.year.0

-- a usable day is right
right_day : (m : Month) (j : ℕ) (r : Reading) (d : DayValue) → is_reading r ≡ true → usable_day m (j, r) ≡ Some d
    → IsDayOf m.element d ≡ true
right_day m j r d reads is =
    let parts = parts_of m r.flagged (day_number m.year m.month j) r.value d is in
    and_from _ _ (is_day-numbered m.year m.month j d.0 parts.0) (and_from _ _ (rw parts.1 at reads) parts.2)

-- so are those of all readings
right_days : (m : Month) (j : ℕ) (rs : List Reading) → list_all is_reading rs ≡ true
    → list_all (IsDayOf m.element) (filter_map (usable_day m) (enumerate_from j rs)) ≡ true
right_days m j [] all = refl
right_days m j (r ∷ rs) all =
    let both = and_parts (is_reading r) (list_all is_reading rs) all in
    elim (usable_day m (j, r)) as (λ o. usable_day m (j, r) ≡ o
    → list_all (IsDayOf m.element) (cons_option o (filter_map (usable_day m) (enumerate_from (j + 1) rs))) ≡ true) [
      | None ↦ λ is. right_days m (j + 1) rs both.1
      | Some d ↦ λ is. and_from _ _ (right_day m j r d both.0 is) (right_days m (j + 1) rs both.1)
    ] refl

-- and those of all months
pub all_right : (e : Element) (ms : List Month) → AllByRecursion (λ m. IsMonth m × (m.element ≡ e)) ms
    → list_all (IsDayOf e) (flat_map usable_days ms) ≡ true
all_right e [] all = refl
all_right e (m ∷ ms) all =
    let here : list_all (IsDayOf e) (usable_days m) ≡ true = rw (← all.0.1) (right_days m 1 m.days all.0.0.values) in
    list_all-append (IsDayOf e) (usable_days m) (flat_map usable_days ms) ∙ and_from _ _ here (all_right e ms all.1)

-- right days in order are right
pub sorted_right : (P : DayValue → Bool) (xs : List DayValue) → list_all P xs ≡ true → list_all P (sorted_by by_day xs)
    ≡ true
sorted_right P xs all =
    list_all-from_AllPass P (sorted_by by_day xs) (All-permutation (λ x. P x ≡ true) xs (sorted_by by_day xs)
    (sorted-permutation by_day xs) (AllPass-from_list_all P xs all))

-- there are as many days in their order as before
pub length-sorted : (xs : List DayValue) → length (sorted_by by_day xs) ≡ length xs
length-sorted xs = length_permutation xs (sorted_by by_day xs) (sorted-permutation by_day xs)

-- days whose keys are in order pass the test of order
pub rises : (days : List DayValue) → IsStrictlySortedBy int_cmp (keys_of days) → is_by_day days ≡ true
unfolding IsStrictlySortedBy
rises [] sorted = refl
rises (x ∷ []) sorted = refl
rises (x ∷ y ∷ ys) sorted =
    let less : int_cmp x.0 y.0 ≡ Less = sorted.0.0 in and_from _ _ (grind (arith, ints)) (rises (y ∷ ys) sorted.1)

-- no day that is kept occurs twice
distinct_kept : (kept : Bool) (months : List Month) → IsDistinct same_time months
    → IsDistinct int_eq (keys_of (kept_days kept months))
unfolding IsDistinct
distinct_kept true months apart = distinct_days months apart
distinct_kept false months apart = tt

-- all days that are kept are right
kept_right : (kept : Bool) (e : Element) (months : List Month)
    → AllByRecursion (λ m. IsMonth m × (m.element ≡ e)) months → list_all (IsDayOf e) (kept_days kept months) ≡ true
kept_right true e months right = all_right e months right
kept_right false e months right = refl

-- the days of a gathering, in their order, are those of its months' usable days that are kept, in theirs
pub gathered-sorted : (kept : Bool) (g : Gathering) (months : List Month) → IsGathering kept g months
    → sorted_by by_day (gathered_days g) ≡ sorted_by by_day (kept_days kept months)
gathered-sorted kept g months is =
    sorted-same (gathered_days g) (kept_days kept months) (apart-distinct _ is.parts.apart)
    (distinct_kept kept months is.distinct) is.values

-- a gathering with a usable day becomes a series
pub is_series : (id : StationId) (g : Gathering) (days : List DayValue) → IsReady g → (length (gathered_days g) == 0)
    ≡ false → days ≡ sorted_by by_day (gathered_days g)
    → IsSeries (record { id = id; element = g.element; days = days })
is_series id g days ready some sorted = rw sorted (record {
  nonempty = omega (arith, length-sorted (gathered_days g), eqb-false (length (gathered_days g)) 0 some);
  by_day = rises (sorted_by by_day (gathered_days g))
      (sorted_by-rises (gathered_days g) (apart-distinct _ ready.holds.parts.apart));
  values = rw (gathered-sorted ready.kept g ready.months ready.holds)
      (sorted_right (IsDayOf g.element) (kept_days ready.kept ready.months)
      (kept_right ready.kept g.element ready.months ready.right));
})

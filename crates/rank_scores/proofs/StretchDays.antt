-- Days of a stretch, as one after another comes.
use Rattle.std.proofs.Common.{◌≡◌, Bool, true, false, cond, List, [], ◌∷◌, ◌++◌, Some, None, refl, sym, ap, ◌∙◌, subst}
use Rattle.std.proofs.Common.{arith, ℤ, ◌≤ℤ◌, ◌<ℤ◌}
use Rattle.std.specs.Prelude.{◌&&◌, IsTrue, slice_get}
use Rattle.std.specs.Option.{option_map}
use Rattle.std.specs.List.{AllByRecursion, list_all}
use Rattle.std.proofs.lemmas.Bool.{and_parts}
use Rattle.std.proofs.lemmas.Int.{ints}
use Rattle.ghcn_fields.specs.Meaning.Days.{is_day, first_day}
use Rattle.ghcn_series.specs.Meaning.Series.{DayValue, Series}
use Rattle.ghcn_series.specs.Series.{IsSeries, is_by_day, is_value}
use Rattle.rank_query.specs.Meaning.Asked.{Query}
use Rattle.rank_query.specs.Meaning.Admits.{admits_day}
use Rattle.rank_scores.specs.declared.admitted.Stretch.{Stretch}
use Rattle.rank_scores.specs.Stretches.{admitted_among, IsStretch}
use Rattle.rank_scores.proofs.Rising.{rise-from_by_day, from_each, from_both}
use Rattle.rank_scores.proofs.Runs.{day-bounds}

-- days that rise still do without the first
by_day-rest : (x : DayValue) (xs : List DayValue) → is_by_day (x ∷ xs) ≡ true → is_by_day xs ≡ true
by_day-rest x [] e = refl
by_day-rest x (y ∷ ys) e = (and_parts _ (is_by_day (y ∷ ys)) e).1

-- what is known of days is known of those after the first
pub stretch-rest : (q : Query) (x : DayValue) (xs : List DayValue) (s : Stretch) → IsStretch q (x ∷ xs) s
    → IsStretch q xs s
stretch-rest q x xs s is = grind (arith, ints, by_day-rest x xs is.by_day)

-- the days of a series are days
series_days : (s : Series) (days : List DayValue) → list_all (λ x. is_day x.0 && is_value s.element x.1) days ≡ true
    → AllByRecursion (λ x. IsTrue (is_day x.0)) days
series_days s [] e = tt
series_days s (x ∷ xs) e =
    let all = and_parts (is_day x.0 && is_value s.element x.1)
    (list_all (λ x. is_day x.0 && is_value s.element x.1) xs) e in
    ((and_parts (is_day x.0) (is_value s.element x.1) all.0).0, series_days s xs all.1)

-- at first nothing is known of the days of a series
pub stretch-first : (q : Query) (u : Series) (s : Stretch) → IsSeries u → s.last <ℤ first_day → IsStretch q u.days s
stretch-first q u s series none = grind (arith, ints, series_days u u.days series.values, from_each, day-bounds)

-- a stretch that begins with the first of some days
pub stretch-anew : (q : Query) (x : DayValue) (xs : List DayValue) (old s : Stretch) → IsStretch q (x ∷ xs) old
    → ((d : ℤ) → IsTrue (is_day d) → x.0 ≤ℤ d → d ≤ℤ s.last → admits_day q d ≡ s.admitted) → IsStretch q (x ∷ xs) s
stretch-anew q x xs old s is alike = grind (arith, ints, rise-from_by_day (x ∷ xs) is.by_day, from_both)

-- by the stretch of the first of some days: it is admitted, or isn't
pub stretch-first_of : (b : Bool) (q : Query) (x : DayValue) (xs : List DayValue) (s : Stretch)
    → IsStretch q (x ∷ xs) s → x.0 ≤ℤ s.last → s.admitted ≡ b
    → admitted_among q (x ∷ xs) ≡ cond b (x ∷ admitted_among q xs) (admitted_among q xs)
stretch-first_of b q x xs s is on e = grind (arith, ints)

-- what is known of days is known of those after some of them
pub stretch-behind : (q : Query) (part days : List DayValue) (s : Stretch) → IsStretch q (part ++ days) s
    → IsStretch q days s
stretch-behind q [] days s is = is
stretch-behind q (x ∷ xs) days s is = stretch-behind q xs days s (stretch-rest q x (xs ++ days) s is)

-- the days of a part within a stretch are admitted, or aren't, all alike
pub stretch-part : (b : Bool) (q : Query) (part days : List DayValue) (s : Stretch) → IsStretch q (part ++ days) s
    → AllByRecursion (λ x. x.0 ≤ℤ s.last) part → s.admitted ≡ b
    → admitted_among q (part ++ days) ≡ cond b part [] ++ admitted_among q days
stretch-part true q [] days s is within e = refl
stretch-part false q [] days s is within e = refl
stretch-part true q (x ∷ xs) days s is within e =
    stretch-first_of true q x (xs ++ days) s is within.0 e
    ∙ ap (λ (them : List DayValue). x ∷ them)
    (stretch-part true q xs days s (stretch-rest q x (xs ++ days) s is) within.1 e)
stretch-part false q (x ∷ xs) days s is within e =
    stretch-first_of false q x (xs ++ days) s is within.0 e
    ∙ stretch-part false q xs days s (stretch-rest q x (xs ++ days) s is) within.1 e

-- what holds of days, of which one is the first, holds of them by that name
pub with-first : (P : List DayValue → Type 0) (days : List DayValue) (day : ℤ)
    → option_map (λ (x : DayValue). x.0) (slice_get days 0) ≡ Some day
    → ((value : ℤ) (rest : List DayValue) → P ((day, value) ∷ rest)) → P days
with-first P [] day is holds = absurd cc
with-first P (x ∷ xs) day is holds =
    let same : x.0 ≡ day = cc in
    subst (λ (d : ℤ). P ((d, x.1) ∷ xs)) (sym same) (holds x.1 xs)

-- without a first one there is none
pub no-first : (days : List DayValue) → None ≡ option_map (λ (x : DayValue). x.0) (slice_get days 0) → days ≡ []
no-first [] is = refl
no-first (x ∷ xs) is = absurd cc

-- the stretch that goes on with the first of some days is one of them
pub stretch-on : (q : Query) (days : List DayValue) (day : ℤ) (old new : Stretch)
    → Some day ≡ option_map (λ (x : DayValue). x.0) (slice_get days 0) → IsStretch q days old
    → ((value : ℤ) (rest : List DayValue) → IsStretch q ((day, value) ∷ rest) old
    → IsStretch q ((day, value) ∷ rest) new)
    → IsStretch q days new
stretch-on q days day old new first is on =
    with-first (λ (them : List DayValue). IsStretch q them old → IsStretch q them new) days day (sym first) on is

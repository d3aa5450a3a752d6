-- Totals of windows: as sums of the first of some days, and of the days from a first to a last one.
use Rattle.std.proofs.Common.{◌≡◌, ℕ, zero, suc, ◌+◌, ◌*◌, Bool, true, false, cond, List, [], ◌∷◌, drop, Option, Some}
use Rattle.std.proofs.Common.{None, refl, sym, ◌∙◌, arith, ℤ, pos, neg_ℤ, ◌+ℤ◌, ◌-ℤ◌, ◌≤ℤ◌, ◌<ℤ◌, ◌⊎◌, inl, inr, ◌<◌}
use Rattle.std.proofs.Common.{◌≤◌, length, subst, rules}
use Rattle.std.specs.Prelude.{◌&&◌, int_le}
use Rattle.std.specs.List.{AllByRecursion, list_all}
use Rattle.std.specs.Ordering.{int_eq}
use Rattle.std.proofs.lemmas.Bool.{cases_Bool, and_parts}
use Rattle.std.proofs.lemmas.Bool.Decides.{Decides-int_eq}
use Rattle.std.proofs.lemmas.Int.{ints}
use Rattle.std.proofs.lemmas.List.Elements.{recursion_from_All, filter_passes}
use Rattle.ghcn_fields.specs.Meaning.Days.{is_day}
use Rattle.ghcn_files.specs.declared.element.Element.{Element}
use Rattle.ghcn_series.specs.Meaning.Series.{DayValue, Series}
use Rattle.ghcn_series.specs.Series.{IsSeries, is_value}
use Rattle.rank_query.specs.Meaning.Asked.{Query}
use Rattle.rank_scores.specs.Meaning.Candidates.{admitted, days_within, sum_of_values}
use Rattle.rank_scores.specs.Candidates.{plus, window_total}
use Rattle.rank_scores.proofs.Rising.{Rise, rise-filter, all-filter, from_each, from_both, find-filter}
use Rattle.rank_scores.proofs.Rising.{value_on-other, value_on-later}

-- ---- sums that there may be

-- if there is a sum, the second part is what the first leaves of it
plus-rest : (v : ℤ) (o : Option ℤ) (t : ℤ) → plus (Some v) o ≡ Some t → o ≡ Some (t -ℤ v)
plus-rest v o t e = grind (arith, ints)

-- nothing added to zero
plus-zero : (o : Option ℤ) → plus (Some (pos 0)) o ≡ o
plus-zero o = grind (arith, ints)

-- sums of three, if there is one
plus-cond : (b : Bool) (v : ℤ) (o p : Option ℤ) → cond b (plus (Some v) (plus o p)) None
    ≡ plus (cond b (plus (Some v) o) None) p
plus-cond false v o p = refl
plus-cond true v None p = refl
plus-cond true v (Some t) None = refl
plus-cond true v (Some t) (Some u) = search (rules, arith)

-- ---- the first of some days

-- the sum of the first n of some days, if these are the days from a on, one after another
abbrev pub leading : ℕ → ℤ → List DayValue → Option ℤ
leading zero a xs = Some (pos 0)
leading (suc n) a [] = None
leading (suc n) a (x ∷ xs) = cond (int_eq x.0 a) (plus (Some x.1) (leading n (a +ℤ pos 1) xs)) None

-- the sum of the first days is that of some of them, and of those after these
pub leading-split : (n len m : ℕ) (a : ℤ) (xs : List DayValue) → n ≡ len + m
    → leading n a xs ≡ plus (leading len a xs) (leading m (a +ℤ pos len) (drop len xs))
leading-split n zero m a xs e = grind (arith, ints, plus-zero (leading m a xs))
leading-split zero (suc len) m a xs e = absurd (omega arith)
leading-split (suc n) (suc len) m a [] e = refl
leading-split (suc n) (suc len) m a (x ∷ xs) e =
    let same : (a +ℤ pos 1) +ℤ pos len ≡ a +ℤ pos (suc len) = omega (arith, ints) in
    rw (leading-split n len m (a +ℤ pos 1) xs (omega arith), same)
    (plus-cond (int_eq x.0 a) x.1 (leading len (a +ℤ pos 1) xs) (leading m (a +ℤ pos (suc len)) (drop len xs)))

-- if days are summed, the first of them is the day a, and those after it have the rest of the sum
pub leading-first : (n : ℕ) (a t : ℤ) (x : DayValue) (xs : List DayValue) → leading (suc n) a (x ∷ xs) ≡ Some t
    → (x.0 ≡ a) × (leading n (a +ℤ pos 1) xs ≡ Some (t -ℤ x.1))
leading-first n a t x xs e = search (rules, arith, plus-rest, Decides-int_eq)

-- ---- windows

-- a day has the total that it has among later days
pub total-behind : (x : DayValue) (xs : List DayValue) (n : ℕ) (a : ℤ) → x.0 <ℤ a
    → window_total (x ∷ xs) n a ≡ window_total xs n a
total-behind x xs zero a lt = refl
total-behind x xs (suc n) a lt =
    grind (arith, ints, total-behind x xs n (a +ℤ pos 1) (omega (arith, ints, lt)), value_on-other)

-- among days that rise from a on, the total of a window is the sum of the first days
pub total-leading : (n : ℕ) (a : ℤ) (xs : List DayValue) → Rise xs → AllByRecursion (λ y. a ≤ℤ y.0) xs
    → window_total xs n a ≡ leading n a xs
total-leading zero a xs rise from = refl
total-leading (suc n) a [] rise from = refl
total-leading (suc n) a (x ∷ xs) rise from =
    elim (cases_Bool (int_eq x.0 a)) [
      | inl is ↦
          let on : x.0 ≡ a = (Decides-int_eq x.0 a).0 is in
          let next = from_each (λ y. x.0 <ℤ y.0) (λ y. (a +ℤ pos 1) ≤ℤ y.0) xs
          (λ y l. omega (arith, ints, on, l)) rise.0 in
          let behind = total-behind x xs n (a +ℤ pos 1) (omega (arith, ints, on)) in
          rw (is, behind, total-leading n (a +ℤ pos 1) xs rise.1 next)
      | inr is ↦
          let unlike : x.0 ≡ a → ⊥ = λ on. let yes = (Decides-int_eq x.0 a).1 on in cc in
          let low : a ≤ℤ x.0 = from.0 in
          let before : a <ℤ x.0 = omega (arith, ints, unlike, low) in
          let later = from_each (λ y. x.0 <ℤ y.0) (λ y. a <ℤ y.0) xs (λ y l. omega (arith, ints, before, l)) rise.0 in
          rw (is, value_on-later xs a later)
    ]

-- ---- the days of a window

-- the day lies from a to b
abbrev inside : ℤ → ℤ → DayValue → Bool
inside a b x = int_le a x.0 && int_le x.0 b

-- a day between the two lies there
lies : (first last a : ℤ) (x : DayValue) → first ≤ℤ a → a ≤ℤ last → int_eq x.0 a ≡ true → inside first last x ≡ true
lies first last a x low high e = grind (arith, ints)

-- a window within some days has its total among these
total-within : (days : List DayValue) (first last : ℤ) (n : ℕ) (a : ℤ) → first ≤ℤ a
    → (a +ℤ pos n) ≤ℤ (last +ℤ pos 1) → window_total (days_within first last days) n a ≡ window_total days n a
total-within days first last zero a low high = refl
total-within days first last (suc n) a low high =
    rw (
      find-filter (λ x. int_eq x.0 a) (inside first last) days
          (λ x e. lies first last a x low (omega (arith, ints, high)) e),
      total-within days first last n (a +ℤ pos 1) (omega (arith, ints, low)) (omega (arith, ints, high)),
    )

-- there are n days with the total as the sum of their values, or there are fewer and there is no total
abbrev Summed : ℕ → List DayValue → Option ℤ → Type 0
Summed n days total = ((total ≡ Some (sum_of_values days)) × (length days ≡ n)) ⊎ ((total ≡ None) × (length days < n))

-- there are no more than n
at_most : (n : ℕ) (days : List DayValue) (total : Option ℤ) → Summed n days total → length days ≤ n
at_most n days total h = grind arith

-- so it is with one day more
one_more : (n : ℕ) (x : DayValue) (days : List DayValue) (total : Option ℤ) → Summed n days total
    → Summed (suc n) (x ∷ days) (plus (Some x.1) total)
one_more n x days total h = grind arith

-- the day is one of the n from a on
abbrev Lies : ℕ → ℤ → DayValue → Type 0
Lies n a x = (a ≤ℤ x.0) × (x.0 <ℤ (a +ℤ pos n))

-- so it is for rising days that lie there
leading-summed : (n : ℕ) (a : ℤ) (xs : List DayValue) → Rise xs → AllByRecursion (Lies n a) xs
    → Summed n xs (leading n a xs)
leading-summed zero a [] rise h = inl (refl, refl)
leading-summed zero a (x ∷ xs) rise h = absurd (omega (arith, ints, h.0.0, h.0.1))
leading-summed (suc n) a [] rise h = inr (refl, omega arith)
leading-summed (suc n) a (x ∷ xs) rise h =
    let next : AllByRecursion (Lies n (a +ℤ pos 1)) xs = from_both (λ y. x.0 <ℤ y.0) (Lies (suc n) a)
    (Lies n (a +ℤ pos 1)) xs (λ y l k. (omega (arith, ints, h.0.0, l), omega (arith, ints, k.1))) rise.0 h.1 in
    elim (cases_Bool (int_eq x.0 a)) [
      | inl is ↦ rw is (one_more n x xs (leading n (a +ℤ pos 1) xs) (leading-summed n (a +ℤ pos 1) xs rise.1 next))
      | inr is ↦
          let unlike : x.0 ≡ a → ⊥ = λ on. let yes = (Decides-int_eq x.0 a).1 on in cc in
          let few = at_most n (x ∷ xs) (leading n (a +ℤ pos 1) (x ∷ xs)) (leading-summed n (a +ℤ pos 1) (x ∷ xs) rise
          ((omega (arith, ints, unlike, h.0.0), omega (arith, ints, h.0.1)), next)) in
          rw is (inr (refl, omega (arith, few)))
    ]

-- so it is for each window
summed : (days : List DayValue) → Rise days → (n : ℕ) (a b : ℤ) → b +ℤ pos 1 ≡ a +ℤ pos n
    → Summed n (days_within a b days) (window_total days n a)
summed days rise n a b ends =
    let all : List DayValue = days_within a b days in
    let rises : Rise all = rise-filter (inside a b) days rise in
    let lie : AllByRecursion (Lies n a) all = from_each (λ x. inside a b x ≡ true) (Lies n a) all
    (λ x e. (grind (arith, ints), grind (arith, ints)))
    (recursion_from_All (λ x. inside a b x ≡ true) all (filter_passes (inside a b) days)) in
    let from : AllByRecursion (λ y. a ≤ℤ y.0) all = from_each (Lies n a) (λ y. a ≤ℤ y.0) all (λ y l. l.0) lie in
    subst (Summed n all) (sym (total-leading n a all rises from)
    ∙ total-within days a b n a (omega (arith, ints)) (omega (arith, ints, ends))) (leading-summed n a all rises lie)

-- a window with a total has its n days, and the total is the sum of their values
pub total-days : (days : List DayValue) → Rise days → (n : ℕ) (a b t : ℤ) → b +ℤ pos 1 ≡ a +ℤ pos n
    → window_total days n a ≡ Some t
    → (length (days_within a b days) ≡ n) × (t ≡ sum_of_values (days_within a b days))
total-days days rise n a b t ends e = let is = summed days rise n a b ends in (grind arith, grind arith)

-- a window with n days has the sum of their values as its total
pub days-total : (days : List DayValue) → Rise days → (n : ℕ) (a b : ℤ) → b +ℤ pos 1 ≡ a +ℤ pos n
    → length (days_within a b days) ≡ n
    → window_total days n a ≡ Some (sum_of_values (days_within a b days))
days-total days rise n a b ends e = let is = summed days rise n a b ends in grind arith

-- ---- small values

-- the value lies within the limits of all values
pub record IsSmall (v : ℤ) : Type 0 where
  pub low : neg_ℤ (pos 99_999) ≤ℤ v
  pub high : v ≤ℤ pos 99_999

-- a sum of n small values is within n times their limits
pub leading-small : (n : ℕ) (a t : ℤ) (xs : List DayValue) → AllByRecursion (λ x. IsSmall x.1) xs
    → leading n a xs ≡ Some t → (neg_ℤ (pos (n * 99_999)) ≤ℤ t) × (t ≤ℤ pos (n * 99_999))
leading-small zero a t xs h e = let none : pos 0 ≡ t = cc in (omega (arith, ints), omega (arith, ints))
leading-small (suc n) a t [] h e = absurd cc
leading-small (suc n) a t (x ∷ xs) h e =
    let rest = leading-small n (a +ℤ pos 1) (t -ℤ x.1) xs h.1 (leading-first n a t x xs e).1 in
    (omega (arith, ints, rest.0, h.0.low), omega (arith, ints, rest.1, h.0.high))

-- the values of the elements are small
value-small : (e : Element) (x : DayValue) → (is_day x.0 && is_value e x.1) ≡ true → IsSmall x.1
value-small e x h = record { low = grind (arith, ints); high = grind (arith, ints) }

-- the values of a series are small
series-small : (e : Element) (days : List DayValue) → list_all (λ x. is_day x.0 && is_value e x.1) days ≡ true
    → AllByRecursion (λ x. IsSmall x.1) days
series-small e [] h = tt
series-small e (x ∷ xs) h =
    let all = and_parts (is_day x.0 && is_value e x.1) (list_all (λ x. is_day x.0 && is_value e x.1) xs) h in
    (value-small e x all.0, series-small e xs all.1)

-- and so are those of its admitted days
pub admitted-small : (q : Query) (s : Series) → IsSeries s → AllByRecursion (λ x. IsSmall x.1) (admitted q s)
admitted-small q s series = grind (arith, ints, all-filter, series-small s.element s.days series.values)

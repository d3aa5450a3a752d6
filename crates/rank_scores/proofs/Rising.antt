-- Days that rise, look-ups among them, and what begins on them.
use Rattle.std.proofs.Common.{◌≡◌, Bool, true, List, [], ◌∷◌, map, Option, Some, None, refl, sym}
use Rattle.std.proofs.Common.{filter, ℤ, ◌<ℤ◌, arith}
use Rattle.std.specs.Prelude.{int_lt}
use Rattle.std.specs.List.{AllByRecursion, filter_map, find, cons_option}
use Rattle.std.specs.List.Sorted.{IsStrictlySortedBy}
use Rattle.std.specs.Cmp.{int_cmp_is}
use Rattle.std.specs.Ordering.{int_cmp}
use Rattle.std.specs.declared.cmp.Ordering.TheVariants.{Less}
use Rattle.std.proofs.lemmas.Bool.{cond_both, and_parts}
use Rattle.std.proofs.lemmas.Int.{ints}
pub use Rattle.ghcn_files.proofs.Ordered.{each-map}
pub use Rattle.ghcn_files.proofs.Among.{each-weaker as from_each}
pub use Rattle.ghcn_series.proofs.ListFacts.{all-filter}
use Rattle.ghcn_series.specs.Meaning.Series.{DayValue, Series, value_on}
use Rattle.ghcn_series.specs.Series.{IsSeries, is_by_day}
use Rattle.rank_query.specs.Meaning.Asked.{Query}
use Rattle.rank_query.specs.Meaning.Admits.{admits_day}
use Rattle.rank_scores.specs.declared.candidate.Candidate.{Candidate}
use Rattle.rank_scores.specs.Meaning.Candidates.{admitted}

-- each day is earlier than all after it
abbrev pub Rise : List DayValue → Type 0
Rise [] = Unit {0}
Rise (x ∷ xs) = AllByRecursion (λ y. x.0 <ℤ y.0) xs × Rise xs

-- ---- facts of each element, and tests

-- what follows from two facts for each follows for all
pub from_both : {X : Type 0} (P Q R : X → Type 0) (xs : List X) → ((x : X) → P x → Q x → R x)
    → AllByRecursion P xs → AllByRecursion Q xs → AllByRecursion R xs
from_both P Q R [] f p q = tt
from_both P Q R (x ∷ xs) f p q = (f x p.0 q.0, from_both P Q R xs f p.1 q.1)

-- what is true of every element is true of all
pub each : {X : Type 0} (P : X → Type 0) (xs : List X) → ((x : X) → P x) → AllByRecursion P xs
each P [] f = tt
each P (x ∷ xs) f = (f x, each P xs f)

-- what follows for what each makes is true of all that is made
pub all-made : {X Y : Type 0} (P : Y → Type 0) (f : X → Option Y) (xs : List X)
    → AllByRecursion (λ x. (y : Y) → f x ≡ Some y → P y) xs → AllByRecursion P (filter_map f xs)
all-made P f [] h = tt
all-made P f (x ∷ xs) h = grind (arith, ints, all-made P f xs h.1)

-- ---- days that rise

-- days of which each is later than the one before rise
pub rise-from_by_day : (days : List DayValue) → is_by_day days ≡ true → Rise days
rise-from_by_day [] e = tt
rise-from_by_day (x ∷ []) e = (tt, tt)
rise-from_by_day (x ∷ y ∷ ys) e =
    let both = and_parts (int_lt x.0 y.0) (is_by_day (y ∷ ys)) e in
    let rest : Rise (y ∷ ys) = rise-from_by_day (y ∷ ys) both.1 in
    let before = both.0 in
    let first : x.0 <ℤ y.0 = grind (arith, ints) in
    ((first, from_each (λ z. y.0 <ℤ z.0) (λ z. x.0 <ℤ z.0) ys (λ z l. omega (arith, ints, first, l)) rest.0), rest)

-- days that pass a test rise as before
pub rise-filter : (t : DayValue → Bool) (days : List DayValue) → Rise days → Rise (filter t days)
rise-filter t [] h = tt
rise-filter t (x ∷ xs) h = grind (arith, ints, cond_both, all-filter, rise-filter t xs h.1)

-- the admitted days of a series rise
pub admitted-rise : (q : Query) (s : Series) → IsSeries s → Rise (admitted q s)
admitted-rise q s series = rise-filter (λ x. admits_day q x.0) s.days (rise-from_by_day s.days series.by_day)

-- ---- look-ups

-- among what is kept, the same is found with one element more, which is kept if it passes the search
find-cons : {X : Type 0} (test keeps : X → Bool) (x : X) (xs : List X) → (test x ≡ true → keeps x ≡ true)
    → find test (filter keeps xs) ≡ find test xs → find test (filter keeps (x ∷ xs)) ≡ find test (x ∷ xs)
find-cons test keeps x xs h rest = grind arith

-- among what is kept, the same is found, if all that passes the search is kept
pub find-filter : {X : Type 0} (test keeps : X → Bool) (xs : List X) → ((x : X) → test x ≡ true → keeps x ≡ true) →
    find test (filter keeps xs) ≡ find test xs
find-filter test keeps [] h = refl
find-filter test keeps (x ∷ xs) h =
    find-cons test keeps x xs (h x) (find-filter test keeps xs h)

-- after a pair of another day, the day has the value that it had
pub value_on-other : (x : DayValue) (xs : List DayValue) (a : ℤ) → (x.0 ≡ a → ⊥) → value_on (x ∷ xs) a ≡ value_on xs a
value_on-other x xs a unlike = grind (arith, ints)

-- a pair of the day has its value
pub value_on-here : (x : DayValue) (xs : List DayValue) (a : ℤ) → x.0 ≡ a → value_on (x ∷ xs) a ≡ Some x.1
value_on-here x xs a e = grind (arith, ints)

-- a day has no value among later ones
pub value_on-later : (xs : List DayValue) (a : ℤ) → AllByRecursion (λ y. a <ℤ y.0) xs → value_on xs a ≡ None
value_on-later [] a h = refl
value_on-later (y ∷ ys) a h = grind (arith, ints, value_on-other, value_on-later ys a h.1)

-- nor has one before the first of days that rise
pub value_on-before : (x : DayValue) (xs : List DayValue) (a : ℤ) → Rise (x ∷ xs) → a <ℤ x.0
    → value_on (x ∷ xs) a ≡ None
value_on-before x xs a rise h = grind (arith, ints, value_on-later, from_each)

-- if days rise, each has the value that is beside it
pub values_stand : (days : List DayValue) → Rise days → AllByRecursion (λ x. value_on days x.0 ≡ Some x.1) days
values_stand [] h = tt
values_stand (x ∷ xs) h = grind (arith, ints, value_on-here x xs x.0, from_both, value_on-other, values_stand xs h.1)

-- ---- what begins on days that rise

-- two ways to make something of days make the same if they do so of each
pub same_made : (f g : DayValue → Option Candidate) (xs : List DayValue) → AllByRecursion (λ x. f x ≡ g x) xs
    → filter_map f xs ≡ filter_map g xs
same_made f g [] h = refl
same_made f g (x ∷ xs) h = grind (arith, ints, same_made f g xs h.1)

module _ (f : DayValue → Option Candidate)
    (begins : (x : DayValue) (c : Candidate) → f x ≡ Some c → c.first ≡ x.0) where
  -- what begins on days that rise rises by first day
  pub firsts_rise : (xs : List DayValue) → Rise xs → IsStrictlySortedBy int_cmp (map (λ c. c.first) (filter_map f xs))
  unfolding IsStrictlySortedBy
  firsts_rise [] h = tt
  firsts_rise (x ∷ xs) h =
      elim (f x) as (λ o. f x ≡ o
      → IsStrictlySortedBy int_cmp (map (λ c. c.first) (cons_option o (filter_map f xs)))) [
        | None ↦ λ e. firsts_rise xs h.1
        | Some c ↦ λ e. (
          each-map (λ d. d.first) (λ z. int_cmp c.first z ≡ Less) (filter_map f xs)
              (all-made (λ d. int_cmp c.first d.first ≡ Less) f xs
              (from_each (λ y. x.0 <ℤ y.0) (λ y. (d : Candidate) → f y ≡ Some d → int_cmp c.first d.first ≡ Less) xs
              (λ y l d g. sym (int_cmp_is c.first d.first Less (omega (arith, ints, begins x c e, begins y d g, l))))
              h.0)),
          firsts_rise xs h.1,
        )
      ] refl

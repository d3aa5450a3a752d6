-- Of days in their order those that pass a test are those that pass, in their order: so are the admitted days of facts.
use Rattle.std.proofs.Common.{◌≡◌, Bool, true, false, cond, not, List, [], ◌∷◌, ◌++◌, length, filter, refl, ap, ◌∙◌}
use Rattle.std.proofs.Common.{arith, ℤ, rules}
use Rattle.std.specs.Prelude.{◌==◌, int_le}
use Rattle.std.specs.List.{AllByRecursion}
use Rattle.std.specs.Cmp.{IsTotalOrder}
use Rattle.std.specs.Ordering.{is_le, int_cmp, on}
use Rattle.std.specs.declared.cmp.Ordering.{Ordering}
use Rattle.std.proofs.lemmas.Cmp.{int_cmp_total, on_total}
use Rattle.std.proofs.lemmas.Int.{ints}
use Rattle.std.proofs.lemmas.List.Elements.{filter-append}
use Rattle.ghcn_fields.specs.Sorting.{placed, sorted_by}
use Rattle.ghcn_files.proofs.Among as among
use Rattle.ghcn_files.proofs.Ordered as ordered
use Rattle.ghcn_files.specs.declared.station.StationId.{StationId}
use Rattle.ghcn_files.specs.declared.element.Element.{Element}
use Rattle.ghcn_series.specs.Meaning.Series.{DayValue}
use Rattle.ghcn_series.specs.Series.{by_day}
use Rattle.ghcn_series.specs.Meaning.Says.{Fact}
use Rattle.ghcn_series.specs.Says.{days_of}
use Rattle.ghcn_series.proofs.JoinedFiles.{days_said, days_said-append, joined-left, joined-right}
use Rattle.ghcn_series.proofs.ListFacts.{all-filter}
use Rattle.rank_query.specs.Meaning.Asked.{Query}
use Rattle.rank_query.specs.Meaning.Admits.{admits_day}
use Rattle.rank_scores.specs.Stretches.{admitted_among}

-- ---- a test of what is put in order

module _ {X : Type 0} (first : X → X → Bool) where
  -- what comes before all of some is placed in front of them
  placed-front : (x : X) (ys : List X) → AllByRecursion (λ z. first x z ≡ true) ys → placed first x ys ≡ x ∷ ys
  placed-front x [] h = refl
  placed-front x (y ∷ ys) h = ap (λ (b : Bool). cond b (x ∷ y ∷ ys) (y ∷ placed first x ys)) h.0

  -- what fails a test isn't one of those that pass, wherever it is placed
  filter-placed_failing : (p : X → Bool) (x : X) (ys : List X) → p x ≡ false
      → filter p (placed first x ys) ≡ filter p ys
  filter-placed_failing p x [] failing = ap (λ (b : Bool). cond b (x ∷ []) []) failing
  filter-placed_failing p x (y ∷ ys) failing = grind (arith, ints, filter-placed_failing p x ys failing)

module _ {X : Type 0} (cmp : X → X → Ordering) (total : IsTotalOrder cmp) (first : X → X → Bool)
    (first-is : (a b : X) → first a b ≡ is_le (cmp a b)) (p : X → Bool) where
  -- what comes before one comes before all that come after that one
  before_all : (x y : X) (ys : List X) → first x y ≡ true → AllByRecursion (λ z. first y z ≡ true) ys
      → AllByRecursion (λ z. first x z ≡ true) ys
  before_all x y ys e h =
      among.each-weaker (λ z. first y z ≡ true) (λ z. first x z ≡ true) ys
      (λ z f. ordered.first_trans cmp total first first-is x y z e f) h

  -- what passes takes its place among those that pass
  filter-placed : (x : X) (ys : List X) → p x ≡ true → ordered.InTurn cmp total first first-is ys
      → filter p (placed first x ys) ≡ placed first x (filter p ys)
  filter-placed x [] passing turn = ap (λ (b : Bool). cond b (x ∷ []) []) passing
  filter-placed x (y ∷ ys) passing turn =
      grind (arith, ints, placed-front, all-filter, before_all, filter-placed x ys passing turn.1)

  -- the test may be made before the elements are put in order or after
  pub filter-sorted : (xs : List X) → filter p (sorted_by first xs) ≡ sorted_by first (filter p xs)
  filter-sorted [] = refl
  filter-sorted (x ∷ xs) =
      elim (p x) as (λ b. p x ≡ b
      → filter p (placed first x (sorted_by first xs)) ≡ sorted_by first (cond b (x ∷ filter p xs) (filter p xs))) [
        | true ↦ λ passing.
            filter-placed x (sorted_by first xs) passing (ordered.sorted-in_turn cmp total first first-is xs)
            ∙ ap (placed first x) (filter-sorted xs)
        | false ↦ λ failing. filter-placed_failing first p x (sorted_by first xs) failing ∙ filter-sorted xs
      ] refl

-- ---- admitted days

-- days by their numbers
abbrev day_cmp : DayValue → DayValue → Ordering
day_cmp = on (λ x. x.0) int_cmp

-- that is a total order
day_total : IsTotalOrder day_cmp
day_total = on_total (λ (x : DayValue). x.0) int_cmp_total

-- a number that is at most another
le-is : (a b : ℤ) → int_le a b ≡ is_le (int_cmp a b)
le-is a b = grind (arith, ints)

module _ (q : Query) (id : StationId) (e : Element) where
  -- the admitted days of a station and element, by day
  abbrev pub admitted_in : List Fact → List DayValue
  admitted_in facts = admitted_among q (days_of facts id e)

  -- those as facts come
  abbrev admitted_said : List Fact → List DayValue
  admitted_said facts = filter (λ x. admits_day q x.0) (days_said facts id e)

  -- the first are the second by day
  admitted-sorted : (facts : List Fact) → admitted_in facts ≡ sorted_by by_day (admitted_said facts)
  admitted-sorted facts = grind (arith, ints, filter-sorted, day_total, le-is, days_said facts id e)

  -- those of facts, and of others after them
  admitted_said-append : (f g : List Fact) → admitted_said (f ++ g) ≡ admitted_said f ++ admitted_said g
  admitted_said-append f g = search (rules, arith, days_said-append, filter-append, days_said)

  -- both in their order
  admitted_in-append : (f g : List Fact) → admitted_in (f ++ g) ≡ sorted_by by_day (admitted_said f ++ admitted_said g)
  admitted_in-append f g = admitted-sorted (f ++ g) ∙ ap (sorted_by by_day) (admitted_said-append f g)

  -- if none is among these admitted days, none is among them in their order
  none_sorted : (facts : List Fact) → not (length (admitted_in facts) == 0) ≡ false
      → not (length (sorted_by by_day (admitted_said facts)) == 0) ≡ false
  none_sorted facts none = grind (arith, ints, admitted-sorted facts)

  -- if the first facts have no admitted day, those of all are those of the others
  pub admitted-left : (f g : List Fact) → not (length (admitted_in f) == 0) ≡ false
      → admitted_in (f ++ g) ≡ admitted_in g
  admitted-left f g none = search (rules, arith, admitted_in-append, joined-left, none_sorted, admitted-sorted)

  -- and if the others have none, those of the first
  pub admitted-right : (f g : List Fact) → not (length (admitted_in g) == 0) ≡ false
      → admitted_in (f ++ g) ≡ admitted_in f
  admitted-right f g none = search (rules, arith, admitted_in-append, joined-right, none_sorted, admitted-sorted)

-- The facts that count, of one station and element, are the usable days of its months.
use Rattle.ghcn_series.proofs.Cited.{◌≡◌, ℕ, Bool, true, false, cond, List, [], ◌∷◌, ◌++◌, map, filter, Option, None}
use Rattle.ghcn_series.proofs.Cited.{Some, refl, ap, ◌∙◌, arith, ℤ, pos, ◌&&◌, ◌||◌, int_le, filter_map, flat_map}
use Rattle.ghcn_series.proofs.Cited.{enumerate_from, cons_option, option_and_then, map-append, filter-append, and_parts}
use Rattle.ghcn_series.proofs.Cited.{StationId, Station, Element, Month, Reading, same_id, may_be_negative}
use Rattle.ghcn_series.proofs.Cited.{same_element, DayValue, is_listed, Fact, fact_of, fact_if, facts_of, is_usable}
use Rattle.ghcn_series.proofs.Cited.{counted_day, usable_day, usable_days, months_of, same_id-is}

-- a fact of a month is of its station and element, and of a day that isn't flagged, with its value
pub fact_parts : (m : Month) (flagged : Bool) (day value : Option ℤ) (f : Fact) → fact_if m flagged day value ≡ Some f
    → (flagged ≡ false) × (day ≡ Some f.day) × (value ≡ Some f.value) × (f.id ≡ m.id) × (f.element ≡ m.element)
fact_parts m flagged day value f e = grind arith

-- something more that is there or isn't is kept if it is there and passes a test
one_kept : {X Y : Type 0} (test : X → Bool) (g : X → Y) (there passes : Bool) (x : X) (xs : List X)
    → test x ≡ passes → map g (filter test (cond there (x ∷ xs) xs))
    ≡ cons_option (cond passes (cond there (Some (g x)) None) None) (map g (filter test xs))
one_kept test g there passes x xs is = grind arith

module _ (stations : List Station) (id : StationId) (e : Element) where
  -- the fact has this station and element
  abbrev is_of : Fact → Bool
  is_of f = same_id f.id id && same_element f.element e

  -- a fact's day and value
  abbrev pair : Fact → DayValue
  pair f = (f.day, f.value)

  -- the facts that count, of the station and element, by day
  abbrev pub selected : List Fact → List DayValue
  selected facts = map pair (filter is_of (filter (is_usable stations) facts))

  -- what is selected of two lists is that of both
  selected-append : (xs ys : List Fact) → selected (xs ++ ys) ≡ selected xs ++ selected ys
  selected-append xs ys = simp (filter-append, map-append)

  -- of a month of the station and element
  selected-this : (m : Month) (xs : List (ℕ × Reading)) → is_listed stations id ≡ true
      → (same_id m.id id && same_element m.element e) ≡ true → selected (filter_map (fact_of m) xs)
      ≡ filter_map (usable_day m) xs
  selected-this m [] listed this = refl
  selected-this m (x ∷ xs) listed this =
      elim (fact_of m x) as (λ o. fact_of m x ≡ o → selected (cons_option o (filter_map (fact_of m) xs))
      ≡ cons_option (option_and_then counted_day o) (filter_map (usable_day m) xs)) [
        | None ↦ λ is. selected-this m xs listed this
        | Some f ↦ λ is.
            let of = fact_parts m x.1.flagged _ x.1.value f is in
            let same : m.id ≡ id = same_id-is m.id id (and_parts (same_id m.id id) (same_element m.element e) this).0 in
            let known : is_listed stations f.id ≡ true = ap (is_listed stations) (of.3 ∙ same) ∙ listed in
            rw (known, ← selected-this m xs listed this)
            (one_kept is_of pair (may_be_negative f.element || int_le (pos 0) f.value) true f
            (filter (is_usable stations) (filter_map (fact_of m) xs)) (rw (of.3, of.4) this))
      ] refl

  -- of any other month
  selected-other : (m : Month) (xs : List (ℕ × Reading)) → (same_id m.id id && same_element m.element e) ≡ false
      → selected (filter_map (fact_of m) xs) ≡ []
  selected-other m [] other = refl
  selected-other m (x ∷ xs) other =
      elim (fact_of m x) as (λ o. fact_of m x ≡ o → selected (cons_option o (filter_map (fact_of m) xs)) ≡ []) [
        | None ↦ λ is. selected-other m xs other
        | Some f ↦ λ is.
            let of = fact_parts m x.1.flagged _ x.1.value f is in one_kept is_of pair (is_usable stations f) false f
            (filter (is_usable stations) (filter_map (fact_of m) xs)) (rw (of.3, of.4) other)
            ∙ selected-other m xs other
      ] refl

  -- of all months
  pub selected-months : (ms : List Month) → is_listed stations id ≡ true → selected (flat_map facts_of ms)
      ≡ flat_map usable_days (months_of ms id e)
  selected-months [] listed = refl
  selected-months (m ∷ ms) listed = selected-append (facts_of m) (flat_map facts_of ms)
      ∙ elim (same_id m.id id && same_element m.element e) as (λ b. (same_id m.id id && same_element m.element e) ≡ b
      → selected (facts_of m) ++ selected (flat_map facts_of ms)
      ≡ flat_map usable_days (cond b (m ∷ months_of ms id e) (months_of ms id e))) [
        | true ↦ λ this. rw (selected-this m (enumerate_from 1 m.days) listed this, selected-months ms listed) refl
        | false ↦ λ other. rw (selected-other m (enumerate_from 1 m.days) other) (selected-months ms listed)
      ] refl

-- The series of a listed station and an element in what files hold, from the facts of the files.
use Rattle.ghcn_series.proofs.Cited.{◌≡◌, ℕ, Bool, true, false, cond, not, List, [], ◌∷◌, length, map, filter, Option}
use Rattle.ghcn_series.proofs.Cited.{None, Some, refl, ap₂, arith, ◌==◌, ◌&&◌, ◌||◌, flat_map, find, list_any}
use Rattle.ghcn_series.proofs.Cited.{AllByRecursion, and_parts, StationId, Station, Element, Prcp, Snow, Snwd, Tmax}
use Rattle.ghcn_series.proofs.Cited.{Tmin, same_id, elements, same_element, same_id-is, Series, series_of, is_series_of}
use Rattle.ghcn_series.proofs.Cited.{is_listed, Fact, days_of, usable_of, all_series, facts_in}
use Rattle.ghcn_series.proofs.AllSeries.{same_element-is}
pub use Rattle.ghcn_series.proofs.AllSeries.{has_days}
use Rattle.ghcn_series.proofs.ListFacts.{each-append}
use Rattle.ghcn_series.proofs.JoinedFiles.{contents_in}

-- the series, if it has a day
abbrev pub if_it_has_days : Series → Option Series
if_it_has_days u = cond (length u.days == 0) None (Some u)

module _ {X : Type 0} (test empty : X → Bool) (u : X) where
  -- one more, if all that pass a test are one thing
  next_found : (t none any : Bool) (x : X) (rest : List X) → test x ≡ t → empty x ≡ none → (t ≡ true → x ≡ u)
      → find test rest ≡ cond any (cond (empty u) None (Some u)) None
      → find test (cond (not none) (x ∷ rest) rest) ≡ cond (t || any) (cond (empty u) None (Some u)) None
  next_found true true true x rest passes is same found = found
  next_found true true false x rest passes is same found = let this : x ≡ u = same refl in rw (← this, is) found
  next_found true false any x rest passes is same found =
      let this : x ≡ u = same refl in rw (← this, passes, is)
  next_found false true any x rest fails is same found = found
  next_found false false any x rest fails is same found = rw fails found

  -- if all that pass a test are one thing, it is found among those that aren't empty if it isn't and any passes
  find-kept : (xs : List X) → AllByRecursion (λ x. test x ≡ true → x ≡ u) xs
      → find test (filter (λ x. not (empty x)) xs) ≡ cond (list_any test xs) (cond (empty u) None (Some u)) None
  find-kept [] alike = refl
  find-kept (x ∷ xs) alike =
      next_found (test x) (empty x) (list_any test xs) x (filter (λ y. not (empty y)) xs) refl refl alike.0
      (find-kept xs alike.1)

module _ (facts : List Fact) where
  -- what may be said of a station
  abbrev station_said : Station → List Series
  station_said s = map (usable_of facts s) elements

  module _ (id : StationId) (e : Element) where
    -- the series of a station and element
    abbrev pub series_made : Series
    series_made = record { id = id; element = e; days = days_of facts id e }

    -- whatever series has the station and element is this one
    abbrev IsTheOne : Series → Type 0
    IsTheOne u = is_series_of id e u ≡ true → u ≡ series_made

    -- a series that is said is
    one_said : (s : Station) (f : Element) → IsTheOne (usable_of facts s f)
    one_said s f passes = let both = and_parts (same_id s.id id) (same_element f e) passes in
        ap₂ (λ (i : StationId) (g : Element). record { id = i; element = g; days = days_of facts i g })
        (same_id-is s.id id both.0) (same_element-is f e both.1)

    -- so are those of all stations
    stations_said : (ss : List Station) → AllByRecursion IsTheOne (flat_map station_said ss)
    stations_said [] = tt
    stations_said (s ∷ ss) = let each = one_said s in
        each-append IsTheOne (station_said s) (flat_map station_said ss)
        (each Prcp, (each Snow, (each Snwd, (each Tmax, (each Tmin, tt))))) (stations_said ss)

    -- an element is one of the five
    among_five : (a r s : Bool) (f : Element) → r ≡ s → ((a && same_element Prcp f) || ((a && same_element Snow f)
        || ((a && same_element Snwd f) || ((a && same_element Tmax f) || ((a && same_element Tmin f) || r)))))
        ≡ (a || s)
    among_five a r s f same = rw same (grind arith)

    -- a station's series is said if the station is listed
    listed_said : (ss : List Station) → list_any (is_series_of id e) (flat_map station_said ss) ≡ is_listed ss id
    listed_said [] = refl
    listed_said (s ∷ ss) = among_five (same_id s.id id) _ (is_listed ss id) e (listed_said ss)

    -- the series of a listed station and an element, if it has a day
    pub series_found : (ss : List Station) → is_listed ss id ≡ true
        → find (is_series_of id e) (all_series ss facts) ≡ if_it_has_days series_made
    series_found ss listed = rw (listed_said ss, listed)
        at (find-kept (is_series_of id e) (λ (u : Series). length u.days == 0) series_made (flat_map station_said ss)
        (stations_said ss))

-- the series of a listed station and an element in what files hold is made of their facts, if it has a day
pub series_of-listed : (stations : List Station) (files : List (List ℕ)) (s : Station) (e : Element)
    → is_listed stations s.id ≡ true
    → series_of (contents_in stations files) s.id e ≡ if_it_has_days (usable_of (facts_in stations files) s e)
series_of-listed stations files s e listed = series_found (facts_in stations files) s.id e stations listed

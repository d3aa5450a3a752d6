-- No two series have the same station and element.
use Rattle.ghcn_series.proofs.Cited.{◌≡◌, false, List, [], ◌∷◌, map, refl, flat_map, AllByRecursion, IsDistinct}
use Rattle.ghcn_series.proofs.Cited.{and_left, and_right, Station, Element, Prcp, Snow, Snwd, Tmax, Tmin, same_id}
use Rattle.ghcn_series.proofs.Cited.{elements, same_element, Series, Fact, usable_of, same_series}
use Rattle.ghcn_series.proofs.Places.{ids}
use Rattle.ghcn_series.proofs.ListFacts.{each-append, both_distinct}

-- the series of distinct elements are distinct
elements_apart : (facts : List Fact) (s : Station) → IsDistinct same_series (map (usable_of facts s) elements)
unfolding IsDistinct
elements_apart facts s = let no = and_right (same_id s.id s.id) false refl in
    ((no, (no, (no, (no, tt)))), ((no, (no, (no, tt))), ((no, (no, tt)), ((no, tt), (tt, tt)))))

-- all that may be said of these stations
abbrev pub all_said : List Fact → List Station → List Series
all_said facts ss = flat_map (λ s. map (usable_of facts s) elements) ss

-- a series isn't one of those of stations with other IDs
ids_apart : (facts : List Fact) (u : Series) (ss : List Station) → AllByRecursion (λ i. same_id u.id i ≡ false) (ids ss)
    → AllByRecursion (λ v. same_series u v ≡ false) (all_said facts ss)
ids_apart facts u [] other = tt
ids_apart facts u (s ∷ ss) other =
    let each = λ (e : Element). and_left (same_id u.id s.id) (same_element u.element e) other.0 in
    each-append (λ v. same_series u v ≡ false) (map (usable_of facts s) elements) (all_said facts ss)
    (each Prcp, (each Snow, (each Snwd, (each Tmax, (each Tmin, tt))))) (ids_apart facts u ss other.1)

-- if no ID is listed twice, no two of all series have the same station and element
pub stations_apart : (facts : List Fact) (ss : List Station) → IsDistinct same_id (ids ss)
    → IsDistinct same_series (all_said facts ss)
unfolding IsDistinct
stations_apart facts [] apart = tt
stations_apart facts (s ∷ ss) apart = let each = λ (e : Element). ids_apart facts (usable_of facts s e) ss apart.0 in
    both_distinct same_series (map (usable_of facts s) elements) (all_said facts ss)
    (elements_apart facts s) (stations_apart facts ss apart.1)
    (each Prcp, (each Snow, (each Snwd, (each Tmax, (each Tmin, tt)))))

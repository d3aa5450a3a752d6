-- Files that are cut into parts: the series of all of them are those of the parts, if they are apart.
use Rattle.ghcn_series.proofs.Cited.{◌≡◌, ℕ, Bool, false, List, [], ◌∷◌, ◌++◌, map, filter, refl, sym, ap, ap₂, ◌&&◌}
use Rattle.ghcn_series.proofs.Cited.{flat_map, IsDistinct, IsPermutation, and_from, eq-eqb, nat_eq_equiv, Station}
use Rattle.ghcn_series.proofs.Cited.{Element, same_id, elements, same_element, element_index, same_id-turned, Series}
use Rattle.ghcn_series.proofs.Cited.{Fact, usable_of, same_series, facts_in}
use Rattle.ghcn_series.specs.JoinedFiles.{all_their_series, SeriesOfParts}
use Rattle.ghcn_series.proofs.Places.{same_id-refl}
use Rattle.ghcn_series.proofs.FoundSeries.{has_days}
use Rattle.ghcn_series.proofs.JoinedFiles.{contents_in, facts_of_parts, data-held, all_data-held, days_said}
use Rattle.ghcn_series.proofs.JoinedFiles.{days_said-append, joined-left, joined-right}
use Rattle.ghcn_series.proofs.JoinedLists.{Joins, held_whole}

-- ---- the series of two lists of facts

-- a series has the days of later facts alone if the first ones give it none
pub usable_of-left : (s : Station) (e : Element) (f g : List Fact) → has_days (usable_of f s e) ≡ false
    → usable_of (f ++ g) s e ≡ usable_of g s e
usable_of-left s e f g none =
    rw (days_said-append f g s.id e, joined-left (days_said f s.id e) (days_said g s.id e) none) refl

-- and those of the first ones if later ones give it none
pub usable_of-right : (s : Station) (e : Element) (f g : List Fact) → has_days (usable_of g s e) ≡ false
    → usable_of (f ++ g) s e ≡ usable_of f s e
usable_of-right s e f g none =
    rw (days_said-append f g s.id e, joined-right (days_said f s.id e) (days_said g s.id e) none) refl

-- ---- the series of parts

-- a station and an element
abbrev Place : Type 0
Place = Station × Element

-- the series of a station and element
abbrev said_at : List Fact → Place → Series
said_at facts x = usable_of facts x.0 x.1

-- the stations with each of the five elements
abbrev places : List Station → List Place
places ss = flat_map (λ s. map (λ e. (s, e)) elements) ss

-- what may be said of all stations
places_said : (facts : List Fact) (ss : List Station)
    → map (said_at facts) (places ss) ≡ flat_map (λ s. map (usable_of facts s) elements) ss
places_said facts [] = refl
places_said facts (s ∷ ss) = ap (λ (l : List Series). map (usable_of facts s) elements ++ l) (places_said facts ss)

-- series join if facts do: whatever the facts, the series has the same station and element
series_join : Joins said_at has_days same_series
series_join = record {
  turned = λ a b. ap₂ (λ (s t : Bool). s && t) (same_id-turned a.id b.id)
      (nat_eq_equiv.symm (element_index a.element) (element_index b.element));
  none = λ x. refl;
  left = λ x. usable_of-left x.0 x.1;
  right = λ x. usable_of-right x.0 x.1;
  same = λ x f g. and_from (same_id x.0.id x.0.id) (same_element x.1 x.1) (same_id-refl x.0.id)
      (eq-eqb (element_index x.1) (element_index x.1) refl);
}

module _ (stations : List Station) where
  -- the series that some facts give all stations
  abbrev series_said : List Fact → List Series
  series_said facts = filter has_days (map (said_at facts) (places stations))

  -- the series of what files hold are those that their facts give
  series_held : (files : List (List ℕ)) → (contents_in stations files).series ≡ series_said (facts_in stations files)
  series_held files = ap (filter has_days) (sym (places_said (facts_in stations files) stations))

  -- so it is with all parts
  all_series_held : (parts : List (List (List ℕ))) → all_their_series (map (contents_in stations) parts)
      ≡ flat_map series_said (map (facts_in stations) parts)
  all_series_held [] = refl
  all_series_held (p ∷ parts) = ap₂ (λ (one rest : List Series). one ++ rest) (series_held p) (all_series_held parts)

  -- if no two series of all parts have the same station and element, those of all files are these
  series_together : (parts : List (List (List ℕ)))
      → IsDistinct same_series (all_their_series (map (contents_in stations) parts))
      → IsPermutation (all_their_series (map (contents_in stations) parts))
      (contents_in stations (flat_map (λ files. files) parts)).series
  series_together parts distinct =
      let moved = held_whole said_at has_days same_series series_join (map (facts_in stations) parts) (places stations)
      (rw (all_series_held parts) at distinct) in
      let facts = facts_of_parts stations (λ (files : List (List ℕ)). files) parts in
      rw (all_series_held parts, series_held (flat_map (λ files. files) parts), facts) moved

-- if no station and element has a series in two parts, the series of all files are those of the parts
pub series_of_parts : SeriesOfParts
series_of_parts stations parts ds held are all distinct =
    let of_parts : map (contents_in stations) parts ≡ ds = all_data-held stations (λ files. files) parts ds are in
    let of_all = data-held stations (flat_map (λ files. files) parts) held all in
    rw (← of_parts, ← of_all) (series_together stations parts (rw of_parts distinct))

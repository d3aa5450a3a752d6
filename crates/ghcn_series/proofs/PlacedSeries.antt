-- The series of the stations that are held, at their places.
use Rattle.ghcn_series.proofs.Cited.{◌≡◌, ℕ, zero, suc, ◌<◌, ◌≤◌, List, [], ◌∷◌, ◌++◌, length, drop, get_or, Some}
use Rattle.ghcn_series.proofs.Cited.{inl, inr, refl, sym, ap, ◌∙◌, arith, slice_get, cases_eq, length-map, length_push}
use Rattle.ghcn_series.proofs.Cited.{get_or_append_left, get_or_push, Station, Gathering, StationGathering, Series}
use Rattle.ghcn_series.proofs.Cited.{by_place, ArePlaced, numbered, station_series, series_by_place}
use Rattle.std.proofs.Math.ListN.{get_or-map}
use Rattle.std.proofs.lemmas.List.{ext_get_or}
use Rattle.ghcn_series.specs.Held.{lists_by_number}
use Rattle.ghcn_series.proofs.PlacedStations.{at_place, at_most_all}
use Rattle.ghcn_series.proofs.JoinedStations.{AreHeld, Next, next_at, next_of, none_past}

-- there is a list of series for each station
pub series_long : (ss : List Station) (all : List (List Gathering)) → length all ≡ length ss
    → length (series_by_place ss all) ≡ length ss
series_long [] all same = refl
series_long (s ∷ ss) [] same = absurd (omega (arith, same))
series_long (s ∷ ss) (gs ∷ all) same = ap suc (series_long ss all (omega (arith, same)))

-- a station of which nothing was gathered has no series
no_series : (ss : List Station) (all : List (List Gathering)) (k : ℕ) → get_or all k [] ≡ []
    → get_or (series_by_place ss all) k [] ≡ []
no_series (s ∷ ss) (gs ∷ all) zero none = ap (station_series s.id) none
no_series (s ∷ ss) (gs ∷ all) (suc k) none = no_series ss all k none
no_series _ _ k none = refl

-- and the others have those of what was gathered
series_at : (ss : List Station) (all : List (List Gathering)) (k : ℕ) (s : Station) → slice_get ss k ≡ Some s
    → k < length all → get_or (series_by_place ss all) k [] ≡ station_series s.id (get_or all k [])
series_at [] all k s at lt = absurd cc
series_at (x ∷ xs) [] k s at lt = absurd (omega (arith, lt))
series_at (x ∷ xs) (gs ∷ all) zero s at lt = let this : x ≡ s = cc in rw this refl
series_at (x ∷ xs) (gs ∷ all) (suc k) s at lt = series_at xs all k s at (omega (arith, lt))

-- the stations that come before the rest of those that are held have lists of their series, in that order, and the
-- stations that aren't held have none
pub record HaveSeries (ss : List Station) (all : List (List Gathering)) (numbers : List ℕ) (lists : List (List Series))
    (rest : List StationGathering) : Type 0 where
  pub stations : AreHeld all
  pub same : stations.numbers ≡ numbers
  pub left : drop (length lists) stations.held ≡ rest
  pub done : (k : ℕ) → get_or numbers k 0 ≤ length lists
      → get_or ([] ∷ lists) (get_or numbers k 0) [] ≡ get_or (series_by_place ss all) k []

module _ (ss : List Station) (all : List (List Gathering)) (numbers : List ℕ) where
  -- no station has its series yet
  pub none_have : (held rest : List StationGathering) → ArePlaced numbers held → by_place held numbers ≡ all → rest ≡ held
      → HaveSeries ss all numbers [] rest
  none_have held rest placed view whole = record {
    stations = record { numbers = numbers; held = held; placed = placed; view = view };
    same = refl;
    left = sym whole;
    done = λ k most.
        let none : get_or numbers k 0 ≡ 0 = omega (arith, most) in
        rw none (sym (no_series ss all k (rw (← view, at_place held numbers k, none) refl)));
  }

  module _ (lists : List (List Series)) (g : StationGathering) (whole rest : List StationGathering)
      (is : HaveSeries ss all numbers lists whole) (step : whole ≡ g ∷ rest) where
    -- the next comes after those that have theirs
    next : Next all g (length lists) numbers
    next = rw is.same at (next_of all is.stations (length lists) g rest (is.left ∙ step))

    -- it has its place in the list
    pub next_within : g.place < length all
    next_within = next.within

    -- and its gatherings there
    pub next_gathered : get_or all g.place [] ≡ g.by_element.items
    next_gathered = next.gathered

    -- so it has its series too
    pub one_has : (s : Station) (own : List Series) → slice_get ss g.place ≡ Some s
        → own ≡ station_series s.id g.by_element.items → HaveSeries ss all numbers (lists ++ own ∷ []) rest
    one_has s own at made =
        let more : length (lists ++ own ∷ []) ≡ suc (length lists) =
        omega (arith, length_push lists own) in
        record {
          stations = is.stations;
          same = is.same;
          left = rw more (next_at is.stations.held (length lists) g rest (is.left ∙ step)).2;
          done = λ k most. elim (cases_eq k g.place) [
            | inl here ↦
                rw (here, next.number)
                (get_or_push ([] ∷ lists) own [] (suc (length lists)) refl ∙ made
                ∙ ap (station_series s.id) (sym next_gathered) ∙ sym (series_at ss all g.place s at next_within))
            | inr other ↦
                let before : get_or numbers k 0 ≤ length lists = omega (arith, most, more, next.others k other) in
                get_or_append_left ([] ∷ lists) (own ∷ []) [] (get_or numbers k 0) (omega (arith, before))
                ∙ is.done k before
          ];
        }

  -- all have them
  pub all_have : (lists : List (List Series)) (rest : List StationGathering) → HaveSeries ss all numbers lists rest
      → rest ≡ [] → length all ≡ length ss → lists_by_number lists numbers ≡ series_by_place ss all
  all_have lists rest is none same =
      let past = none_past is.stations.held (length lists) (is.left ∙ none) in
      let as_many : length numbers ≡ length all =
      sym (length-map numbers (numbered is.stations.held)) ∙ ap (λ (ns : List ℕ). length (by_place is.stations.held ns)) (sym is.same)
      ∙ ap length is.stations.view in
      let most : (k : ℕ) → get_or numbers k 0 ≤ length lists =
      λ k. omega (
        arith,
        past,
        ap (λ (ns : List ℕ). get_or ns k 0) is.same,
        at_most_all is.stations.numbers is.stations.held k is.stations.placed,
      ) in
      ext_get_or [] (lists_by_number lists numbers) (series_by_place ss all)
      (length-map numbers (λ n. get_or ([] ∷ lists) n []) ∙ as_many ∙ same ∙ sym (series_long ss all same))
      (λ k lt. get_or-map (λ n. get_or ([] ∷ lists) n []) numbers k 0 ∙ is.done k (most k))

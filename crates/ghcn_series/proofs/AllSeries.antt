-- The series of all stations, from what was gathered of each.
use Rattle.ghcn_series.proofs.Cited.{◌≡◌, Bool, true, false, cond, not, List, [], ◌∷◌, ◌++◌, length, map, filter}
use Rattle.ghcn_series.proofs.Cited.{Option, None, Some, refl, sym, ap, ap₂, ◌∙◌, ◌==◌, ◌&&◌, filter_map, flat_map}
use Rattle.ghcn_series.proofs.Cited.{cons_option, list_any, AllZip, AllByRecursion, slice_get, filter-append, and_parts}
use Rattle.ghcn_series.proofs.Cited.{cond_both, or_right, eqb-true, same_Some, sorted_by, StationId, Station, Element}
use Rattle.ghcn_series.proofs.Cited.{Keep, Month, same_id, elements, same_element, is_kept, everything, AreListed}
use Rattle.ghcn_series.proofs.Cited.{IsMonth, Gathering, DayValue, Series, Data, IsSeries, by_day, is_listed, Fact}
use Rattle.ghcn_series.proofs.Cited.{facts_of, is_usable, days_of, usable_of, all_series, all_of, same_series, kept}
use Rattle.ghcn_series.proofs.Cited.{usable_days, kept_days, gathered_days, months_of, IsGatheringOf, AreByElement}
use Rattle.ghcn_series.proofs.Cited.{IsStationOf, IsReady, gathered_series, series_by_place, arith}
use Rattle.ghcn_files.proofs.KeptElements.{is_kept-everything}
use Rattle.ghcn_series.specs.Held.{AreByStation}
use Rattle.ghcn_series.proofs.Places.{same_id-refl}
use Rattle.ghcn_series.proofs.StationMonths.{months_of-none, element_at}
use Rattle.ghcn_series.proofs.SeriesPlaces.{in_all}
use Rattle.ghcn_series.proofs.ReadySeries.{is_series, length-sorted, gathered-sorted}
use Rattle.ghcn_series.proofs.FactsOfMonths.{selected-months}
use Rattle.ghcn_series.proofs.ListFacts.{each-weaker, passed, zip-weaker, distinct_filter}
use Rattle.ghcn_series.proofs.DistinctSeries.{all_said, stations_apart}

-- elements that are the same
pub same_element-is : (a b : Element) → same_element a b ≡ true → a ≡ b
same_element-is a b e = same_Some a b (sym (element_at a) ∙ ap (slice_get elements) (eqb-true _ _ e) ∙ element_at b)

-- each gathering of a station can become a series
pub right_of : (id : StationId) (e f : Element) (ms : List Month) → f ≡ e → AllByRecursion IsMonth ms
    → AllByRecursion (λ m. IsMonth m × (m.element ≡ f)) (months_of ms id e)
right_of id e f ms same all =
    passed IsMonth (λ m. IsMonth m × (m.element ≡ f)) (λ m. same_id m.id id && same_element m.element e) ms
    (λ m right is.
    (right, same_element-is m.element e (and_parts (same_id m.id id) (same_element m.element e) is).1 ∙ sym same)) all

-- each series of a station is right and has its ID
from_gatherings : (id : StationId) (gs : List Gathering) → AllByRecursion IsReady gs
    → AllByRecursion (λ u. IsSeries u × (u.id ≡ id)) (filter_map (gathered_series id) gs)
from_gatherings id [] ready = tt
from_gatherings id (g ∷ gs) ready =
    let made : Series = record { id = id; element = g.element; days = sorted_by by_day (gathered_days g) } in
    cond_both (length (gathered_days g) == 0) None (Some made)
    (λ (o : Option Series). AllByRecursion (λ u. IsSeries u × (u.id ≡ id))
    (cons_option o (filter_map (gathered_series id) gs))) (λ is. from_gatherings id gs ready.1)
    (λ is. ((is_series id g _ ready.0 is refl, refl), from_gatherings id gs ready.1))

module _ (asked : Keep) (ms : List Month) (right : AllByRecursion IsMonth ms) where
  -- gatherings by element can become series
  ready_zip : (id : StationId) (gs : List Gathering) (es : List Element) → AllZip (IsGatheringOf asked ms id) gs es
      → AllByRecursion IsReady gs
  ready_zip id [] es all = tt
  ready_zip id (g ∷ gs) [] all = absurd all
  ready_zip id (g ∷ gs) (e ∷ es) all =
      let own = right_of id e g.element ms all.0.element right in (
        record { kept = is_kept asked e; months = months_of ms id e; holds = all.0.holds; right = own },
        ready_zip id gs es all.1,
      )

  -- so can those of a station, if it has any
  ready_station : (id : StationId) (gs : List Gathering) → AreByElement asked ms id gs → AllByRecursion IsReady gs
  ready_station id [] all = tt
  ready_station id (g ∷ gs) all = ready_zip id (g ∷ gs) elements all.1

  -- each gathering of all stations can become a series
  pub all_ready : (ss : List Station) (all : List (List Gathering)) → AllZip (IsStationOf asked ms) ss all
      → AllByRecursion (λ gs. AllByRecursion IsReady gs) all
  all_ready ss [] are = tt
  all_ready [] (gs ∷ all) are = absurd are
  all_ready (s ∷ ss) (gs ∷ all) are = (ready_station s.id gs are.0, all_ready ss all are.1)

  -- the series of each station are right and have its ID
  made_right : (ss : List Station) (all : List (List Gathering)) → AllZip (IsStationOf asked ms) ss all
      → AllZip (λ s us. AllByRecursion (λ u. IsSeries u × (u.id ≡ s.id)) us) ss (series_by_place ss all)
  made_right [] all are = tt
  made_right (s ∷ ss) [] are = absurd are
  made_right (s ∷ ss) (gs ∷ all) are =
      (from_gatherings s.id gs (ready_station s.id gs are.0), made_right ss all are.1)

-- ---- they are the series of the facts

-- the series has a day
abbrev pub has_days : Series → Bool
has_days s = not (length s.days == 0)

-- the series of an element that is kept
abbrev pub is_kept_series : Keep → Series → Bool
is_kept_series asked u = is_kept asked u.element

-- a series more is there if its element is kept and it has a day
one_more : (p : Series → Bool) (k b : Bool) (u : Series) (us xs : List Series) (o : Option Series) → p u ≡ k
    → o ≡ cond k (cond b None (Some u)) None → xs ≡ filter p us → cons_option o xs ≡ filter p (cond (not b) (u ∷ us) us)
one_more p k b u us xs o is same rest = grind arith

-- the series of a station and an element that has these days, if there is one
abbrev if_any : StationId → Element → List DayValue → Option Series
if_any id e days = cond (length days == 0) None (Some (record { id = id; element = e; days = days }))

module _ (asked : Keep) (stations : List Station) (ms : List Month) where
  -- what all months say
  abbrev facts : List Fact
  facts = filter (is_usable stations) (flat_map facts_of ms)

  -- the days of a listed station's series are the usable days of its months
  days_of-is : (id : StationId) (e : Element) → is_listed stations id ≡ true
      → days_of facts id e ≡ sorted_by by_day (flat_map usable_days (months_of ms id e))
  days_of-is id e listed = ap (sorted_by by_day) (selected-months stations id e ms listed)

  -- what was gathered of an element becomes a series of those of the usable days that are kept
  gathered-is : (id : StationId) (g : Gathering) (e : Element) → IsGatheringOf asked ms id g e
      → gathered_series id g ≡ if_any id e (sorted_by by_day (kept_days (is_kept asked e) (months_of ms id e)))
  gathered-is id g e is =
      rw (← length-sorted (gathered_days g))
      (ap₂ (if_any id) is.element (gathered-sorted (is_kept asked e) g (months_of ms id e) is.holds))

  -- which are those of the facts, or none
  kept_if : (k : Bool) (s : Station) (e : Element) → is_listed stations s.id ≡ true
      → if_any s.id e (sorted_by by_day (kept_days k (months_of ms s.id e)))
      ≡ cond k (if_any s.id e (days_of facts s.id e)) None
  kept_if true s e listed = ap (if_any s.id e) (sym (days_of-is s.id e listed))
  kept_if false s e listed = refl

  -- the series of gatherings by element are those of the facts that are kept
  elements_series : (s : Station) (gs : List Gathering) (es : List Element) → is_listed stations s.id ≡ true
      → AllZip (IsGatheringOf asked ms s.id) gs es → filter_map (gathered_series s.id) gs
      ≡ filter (is_kept_series asked) (filter has_days (map (usable_of facts s) es))
  elements_series s [] [] listed all = refl
  elements_series s (g ∷ gs) (e ∷ es) listed all =
      one_more (is_kept_series asked) (is_kept asked e) (length (days_of facts s.id e) == 0) (usable_of facts s e)
      (filter has_days (map (usable_of facts s) es)) (filter_map (gathered_series s.id) gs) (gathered_series s.id g)
      refl (gathered-is s.id g e all.0 ∙ kept_if (is_kept asked e) s e listed) (elements_series s gs es listed all.1)
  elements_series s _ _ listed all = absurd all

  -- a station without a month has no series
  no_series : (s : Station) (es : List Element) → is_listed stations s.id ≡ true → list_any (λ m. same_id m.id s.id) ms
      ≡ false → filter has_days (map (usable_of facts s) es) ≡ []
  no_series s [] listed none = refl
  no_series s (e ∷ es) listed none =
      rw (days_of-is s.id e listed, months_of-none ms s.id e none) (no_series s es listed none)

  -- the series of a station are those of the facts that are kept
  station_series-are : (s : Station) (gs : List Gathering) → is_listed stations s.id ≡ true
      → AreByElement asked ms s.id gs → filter_map (gathered_series s.id) gs
      ≡ filter (is_kept_series asked) (filter has_days (map (usable_of facts s) elements))
  station_series-are s [] listed all = sym (ap (filter (is_kept_series asked)) (no_series s elements listed all))
  station_series-are s (g ∷ gs) listed all = elements_series s (g ∷ gs) elements listed all.1

  -- the series of all stations are those of the facts that are kept
  pub series_are : (ss : List Station) (all : List (List Gathering))
      → AllByRecursion (λ s. is_listed stations s.id ≡ true) ss → AllZip (IsStationOf asked ms) ss all
      → all_of (series_by_place ss all) ≡ filter (is_kept_series asked) (all_series ss facts)
  series_are [] [] listed are = refl
  series_are (s ∷ ss) (gs ∷ all) listed are =
      let own = filter has_days (map (usable_of facts s) elements) in
      ap₂ (λ (us more : List Series). us ++ more) (station_series-are s gs listed.0 are.0)
      (series_are ss all listed.1 are.1) ∙ sym (filter-append (is_kept_series asked) own (all_series ss facts))
      ∙ ap (filter (is_kept_series asked))
      (sym (filter-append has_days (map (usable_of facts s) elements) (all_said facts ss)))
  series_are _ _ listed are = absurd are

-- ---- what is true of them

-- each station of a list is listed
pub all_listed : (ss : List Station) → AllByRecursion (λ s. is_listed ss s.id ≡ true) ss
all_listed [] = tt
all_listed (s ∷ ss) = (
  rw (same_id-refl s.id),
  each-weaker (λ x. is_listed ss x.id ≡ true) (λ x. is_listed (s ∷ ss) x.id ≡ true) ss
      (λ x. or_right (same_id s.id x.id) (is_listed ss x.id)) (all_listed ss),
)

-- the series of all stations, in one list for each, are its own and right
pub are_by_station : (asked : Keep) (ms : List Month) (ss : List Station) (all : List (List Gathering)) → AreListed ss
    → AllByRecursion IsMonth ms → AllZip (IsStationOf asked ms) ss all → AreByStation ss (series_by_place ss all)
are_by_station asked ms ss all listed right are =
    let P : Station → Series → Type 0 = λ s u. IsSeries u × (u.id ≡ s.id) in
    let lists = series_by_place ss all in let made = made_right asked ms right ss all are in
    record {
      own = zip-weaker (λ (s : Station) (us : List Series). AllByRecursion (P s) us)
          (λ s us. AllByRecursion (λ (u : Series). u.id ≡ s.id) us) ss lists
          (λ s us. each-weaker (P s) (λ u. u.id ≡ s.id) us (λ u is. is.1)) made;
      listed = listed;
      series = record {
        distinct = rw (series_are asked ss ms ss all (all_listed ss) are)
            (distinct_filter same_series (is_kept_series asked) (all_series ss _)
            (distinct_filter same_series has_days (all_said _ ss) (stations_apart _ ss listed.distinct)));
        listed = in_all (λ s. is_listed ss s.id ≡ true) P (λ u. is_listed ss u.id ≡ true) ss lists
            (λ s u known is. ap (is_listed ss) is.1 ∙ known) (all_listed ss) made;
        right = in_all (λ s. is_listed ss s.id ≡ true) P IsSeries ss lists (λ s u known is. is.0) (all_listed ss) made;
      };
    }

-- ---- what is kept of them

-- a test that each passes leaves all
all_passed : (test : Series → Bool) (us : List Series) → ((u : Series) → test u ≡ true) → filter test us ≡ us
all_passed test [] each = refl
all_passed test (u ∷ us) each = rw (each u, all_passed test us each)

-- if all elements are kept, data stay as they are
pub kept-everything : (held : Data) → kept everything held ≡ held
kept-everything held =
    ap (λ (us : List Series). record held { series = us })
    (all_passed (λ u. is_kept everything u.element) held.series (λ u. is_kept-everything u.element))

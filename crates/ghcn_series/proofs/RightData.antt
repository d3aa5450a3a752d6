-- What is listed without an error is right, and so is what daily files without an error hold.
use Rattle.ghcn_series.proofs.Cited.{◌≡◌, ℕ, ◌<◌, Bool, true, not, List, [], ◌∷◌, ◌++◌, length, map, None, Ok, refl}
use Rattle.ghcn_series.proofs.Cited.{sym, ap, ◌∙◌, subst, arith, ◌^◌, ◌==◌, ◌||◌, flat_map, list_all, list_any}
use Rattle.ghcn_series.proofs.Cited.{AllByRecursion, IsDistinct, eqb-false, ltb-true, not-true, length-map, map-append}
use Rattle.ghcn_series.proofs.Cited.{first_fault, sorted_by, Element, Station, StationId, elements, same_id}
use Rattle.ghcn_series.proofs.Cited.{is_station_of, Numbered, AreListed, is_repeated, place_of, station_fault}
use Rattle.ghcn_series.proofs.Cited.{station_lines, stations_of, IsMonth, id_of, station_of, is_listed, months_of}
use Rattle.ghcn_series.proofs.Cited.{IsContents, same_series, facts_said, months_said, all_series, data_of, usable_of}
use Rattle.ghcn_series.proofs.Cited.{DayValue, Series, Data, IsSeries, by_day}
use Rattle.ghcn_files.proofs.Adding.{listed_more, station_of-right}
use Rattle.ghcn_files.proofs.ById.{has_place, not_found}
use Rattle.ghcn_files.proofs.Ranges.{month_of-right}
use Rattle.ghcn_series.specs.Laws.{DataAreRight, ListsAreRight}
use Rattle.ghcn_series.proofs.AllSeries.{right_of}
use Rattle.ghcn_series.proofs.DistinctSeries.{stations_apart}
use Rattle.ghcn_series.proofs.FactsOfMonths.{selected-months}
use Rattle.ghcn_series.proofs.JoinedFiles.{days_said}
use Rattle.ghcn_series.proofs.ListFacts.{distinct_filter}
use Rattle.ghcn_series.proofs.Members.{In, all_in, for_each, in_any, kept_in, map_in}
use Rattle.ghcn_series.proofs.Places.{same_id-refl}
use Rattle.ghcn_series.proofs.ReadySeries.{IsDayOf, all_right, rises, sorted_right}
use Rattle.ghcn_series.proofs.SaidFacts.{month_line}
use Rattle.ghcn_series.proofs.SaidLines.{are_listed, held-said, kept_after, own_tests}
use Rattle.ghcn_series.proofs.SaidSeries.{said-distinct}
use Rattle.ghcn_series.proofs.SortedDays.{sorted_by-rises}

-- ---- what is listed

-- the stations of some lines have an ID if one of the lines has it
of_lines : (ls : List Numbered) (id : StationId) → list_any (is_station_of id) (stations_of ls) ≡ is_repeated ls id
of_lines [] id = refl
of_lines (l ∷ ls) id = ap (λ (b : Bool). same_id (id_of l.1) id || b) (of_lines ls id)

-- a line without an error adds its station to those that are listed
one_more : (earlier : List Numbered) (l : Numbered) → station_fault earlier l ≡ None → AreListed (stations_of earlier)
    → AreListed (stations_of (earlier ++ l ∷ []))
one_more earlier l none listed =
    let tests = own_tests earlier l none in
    let new : place_of (stations_of earlier) (id_of l.1) ≡ None =
    not_found _ (has_place (stations_of earlier) (id_of l.1) ∙ of_lines earlier (id_of l.1) ∙ tests.1) in
    let few : length earlier < 2 ^ 20 = ltb-true (length earlier) (2 ^ 20) tests.2 in
    subst AreListed (sym (map-append (λ x. station_of x.1) earlier (l ∷ [])))
    (listed_more (stations_of earlier) (station_of l.1) listed new
    (omega (arith, length-map earlier (λ x. station_of x.1), few)) (station_of-right l.1 tests.0))

-- of no lines nothing is listed
none_listed : AreListed []
unfolding IsDistinct
none_listed = record { distinct = tt; few = omega arith; right = refl }

-- a list without an error is right
pub lists-are-right : ListsAreRight
lists-are-right text stations is =
    let are = are_listed (first_fault station_fault (station_lines text)) (station_lines text) stations is in
    subst AreListed are.1 (kept_after station_fault (λ (ls : List Numbered). AreListed (stations_of ls)) one_more []
    (station_lines text) are.0 none_listed)

-- ---- series

module _ (stations : List Station) (files : List (List ℕ)) (held : Data)
    (is : data_of stations files ≡ Ok held) (listed : AreListed stations) where
  -- what the files say of these stations
  abbrev said : List Series
  said = all_series stations (facts_said stations files)

  -- each month that the files say is right
  said_right : AllByRecursion IsMonth (months_said files)
  said_right = for_each IsMonth (months_said files) (λ m has.
      let at = month_line stations files held is m has in subst IsMonth at.4 (month_of-right at.1 at.0 at.5))

  -- a series of a listed station that has a day is right
  one_right : (s : Station) (e : Element) → is_listed stations s.id ≡ true
      → not (length (usable_of (facts_said stations files) s e).days == 0) ≡ true
      → IsSeries (usable_of (facts_said stations files) s e)
  one_right s e here some =
      let xs : List DayValue = days_said (facts_said stations files) s.id e in
      let all : list_all (IsDayOf e) xs ≡ true =
      ap (list_all (IsDayOf e)) (selected-months stations s.id e (months_said files) here)
      ∙ all_right e (months_of (months_said files) s.id e) (right_of s.id e e (months_said files) refl said_right) in
      record {
        nonempty = omega (arith, eqb-false (length (sorted_by by_day xs)) 0 (not-true _ some));
        by_day = rises (sorted_by by_day xs) (sorted_by-rises xs (said-distinct stations s.id e here files held is));
        values = sorted_right (IsDayOf e) xs all;
      }

  -- each series belongs to a listed station, and is right
  each_right : (u : Series) → In said u → (is_listed stations u.id ≡ true) × IsSeries u
  each_right u has =
      let made = usable_of (facts_said stations files) in
      let kept = kept_in (λ s. not (length s.days == 0)) (flat_map (λ s. map (made s) elements) stations) u has in
      let of = all_in (λ s. map (made s) elements) stations u kept.0 in
      let one = map_in (made of.0) elements u of.2 in
      let here : is_listed stations of.0.id ≡ true =
      in_any (is_station_of of.0.id) stations of.0 of.1 (same_id-refl of.0.id) in
      subst (λ v. (is_listed stations v.id ≡ true) × IsSeries v) one.2
      (here, one_right of.0 one.0 here (subst (λ v. not (length v.days == 0) ≡ true) (sym one.2) kept.1))

  -- so what is held is right
  pub held-right : IsContents held
  held-right = subst IsContents (sym (held-said stations files held is)) (record {
    listed = listed;
    series = record {
      distinct = distinct_filter same_series (λ s. not (length s.days == 0))
          (flat_map (λ s. map (usable_of (facts_said stations files) s) elements) stations)
          (stations_apart (facts_said stations files) stations listed.distinct);
      listed = for_each (λ u. is_listed stations u.id ≡ true) said (λ u has. (each_right u has).0);
      right = for_each IsSeries said (λ u has. (each_right u has).1);
    };
  })

-- of a list and files without an error all data are right
pub data-are-right : DataAreRight
data-are-right text stations files held lists is =
    held-right stations files held is (lists-are-right text stations lists)

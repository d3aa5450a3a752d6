-- A station list without an error says the stations that are read of it, and no others.
use Rattle.ghcn_series.proofs.Cited.{◌≡◌, ◌↔◌, ℕ, Bool, true, false, not, List, [], ◌∷◌, length, map, None, Ok, refl}
use Rattle.ghcn_series.proofs.Cited.{sym, ap, ap₂, ◌∙◌, subst, pos, nat_le, neg_ℤ, AllByRecursion, AllZip, not-true}
use Rattle.ghcn_series.proofs.Cited.{Number, is_blank, first_fault, columns, lines, is_bad, scaled_field-number}
use Rattle.ghcn_series.proofs.Cited.{Station, is_id, Numbered, listed, station_fault, station_lines, line_why}
use Rattle.ghcn_series.proofs.Cited.{number_of, station_of, unless_missing, SaysStations, stations_said}
use Rattle.ghcn_files.specs.declared.fault.StationWhy.{StationWhy}
use Rattle.ghcn_files.specs.declared.fault.StationWhy.TheVariants.{Short, BadId, BadLatitude, BadLongitude}
use Rattle.ghcn_files.specs.declared.fault.StationWhy.TheVariants.{BadElevation}
use Rattle.ghcn_files.specs.StationLines.{elevation, is_latitude, is_longitude, latitude, longitude}
use Rattle.ghcn_series.specs.Meaning.Said.{SaysStation}
use Rattle.ghcn_series.proofs.SaidLines.{all_met, are_listed, each_after, listed-said, numbered-kept, own_tests, shown}
use Rattle.ghcn_series.proofs.SaidNumbers.{same_option, scaled_field-has, scaled-value, within-is}

-- ---- a line

module _ (line : List ℕ) (none : line_why line ≡ None) where
  -- the tests of the line
  abbrev tests : List (Bool × StationWhy)
  tests = (nat_le 30 (length line), Short) ∷ (is_id (columns 1 11 line), BadId)
      ∷ (is_latitude (latitude line), BadLatitude) ∷ (is_longitude (longitude line), BadLongitude)
      ∷ (not (is_bad (elevation line)), BadElevation) ∷ []

  -- none fails, so all are met
  fine : AllByRecursion (λ (t : Bool × StationWhy). t.0 ≡ true) tests
  fine = all_met tests none

  -- latitude and longitude are numbers
  north-is : latitude line ≡ Number (number_of (latitude line))
  north-is = within-is (neg_ℤ (pos 900_000)) (pos 900_000) (latitude line) fine.1.1.0

  east-is : longitude line ≡ Number (number_of (longitude line))
  east-is = within-is (neg_ℤ (pos 1_800_000)) (pos 1_800_000) (longitude line) fine.1.1.1.0

  high-is : is_bad (elevation line) ≡ false
  high-is = not-true (is_bad (elevation line)) fine.1.1.1.1.0

  -- a line says the station that is read of it
  said-of : SaysStation line (station_of line)
  said-of = record {
    id = refl;
    latitude = ((scaled_field-number 4 (columns 13 20 line) (number_of (latitude line))).0 north-is).0;
    longitude = ((scaled_field-number 4 (columns 22 30 line) (number_of (longitude line))).0 east-is).0;
    elevation = λ v. scaled-value 1 (columns 32 37 line) v high-is;
    state = refl;
    name = refl;
  }

  -- and no other
  says-of : (s : Station) → SaysStation line s → s ≡ station_of line
  says-of s says =
      let north = scaled_field-has 4 (columns 13 20 line) s.latitude says.latitude (ap is_bad north-is) in
      let east = scaled_field-has 4 (columns 22 30 line) s.longitude says.longitude (ap is_bad east-is) in
      let high : s.elevation ≡ unless_missing (elevation line) =
      same_option s.elevation (unless_missing (elevation line))
      (λ v e. (said-of.elevation v).1 ((says.elevation v).0 e))
      (λ v e. (says.elevation v).1 ((said-of.elevation v).0 e)) in λ i. record {
        id = record { 0 = says.id i };
        latitude = sym (ap number_of north) i;
        longitude = sym (ap number_of east) i;
        elevation = high i;
        state = says.state i;
        name = says.name i;
      }

-- ---- the lines of a list

-- each line says a station
all-said : (ls : List (List ℕ)) → AllByRecursion (λ l. line_why l ≡ None) ls → AllZip SaysStation ls (map station_of ls)
all-said [] are = tt
all-said (l ∷ ls) are = (said-of l are.0, all-said ls are.1)

-- and no other
all-says : (ls : List (List ℕ)) (ss : List Station) → AllByRecursion (λ l. line_why l ≡ None) ls
    → AllZip SaysStation ls ss → ss ≡ map station_of ls
all-says [] [] are says = refl
all-says [] (s ∷ ss) are says = absurd says
all-says (l ∷ ls) [] are says = absurd says
all-says (l ∷ ls) (s ∷ ss) are says =
    ap₂ (λ (x : Station) (xs : List Station). x ∷ xs) (says-of l are.0 s says.0) (all-says ls ss are.1 says.1)

-- a list without an error says its stations, and no others
pub stations-said : (text : List ℕ) (list : List Station) → listed text ≡ Ok list → (other : List Station)
    → SaysStations text other ↔ (other ≡ list)
stations-said text list is other =
    let none = (are_listed (first_fault station_fault (station_lines text)) (station_lines text) list is).0 in
    let fine : AllByRecursion (λ l. line_why l ≡ None) (shown (lines text)) =
    subst (AllByRecursion (λ (l : List ℕ). line_why l ≡ None))
    (numbered-kept (λ (l : List ℕ). not (is_blank l)) 1 (lines text))
    (each_after station_fault (λ (l : Numbered). l.1) (λ (l : List ℕ). line_why l ≡ None)
    (λ earlier l fits. (own_tests earlier l fits).0) [] (station_lines text) none) in
    let same : list ≡ stations_said text = listed-said text list is in (
      λ says. all-says (shown (lines text)) other fine says ∙ sym same,
      λ e. subst (AllZip SaysStation (shown (lines text))) (sym (e ∙ same)) (all-said (shown (lines text)) fine),
    )

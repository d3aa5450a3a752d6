-- The tests of a line of the station list, one after the other.
use Rattle.std.proofs.Common.{◌≡◌, ℕ, ◌≤◌, Bool, true, cond, List, length, map, Option, Some, None, ap, ◌∙◌}
use Rattle.std.specs.Prelude.{not, ℤ}
use Rattle.std.proofs.lemmas.Bool.{le-leb}
use Rattle.ghcn_fields.specs.Meaning.Lines.{columns}
use Rattle.ghcn_files.specs.declared.station.StationId.{StationId}
use Rattle.ghcn_files.specs.declared.fault.StationWhy.{StationWhy}
use Rattle.ghcn_files.specs.declared.fault.StationWhy.TheVariants.{Short, BadId, BadLatitude, BadLongitude}
use Rattle.ghcn_files.specs.declared.fault.StationWhy.TheVariants.{BadElevation}
use Rattle.ghcn_files.specs.Ids.{is_id}
use Rattle.ghcn_files.specs.StationLines.{id_of, latitude, longitude, elevation, is_latitude, is_longitude, is_bad}
use Rattle.ghcn_files.specs.StationLines.{number_of, numbers_of, unless_missing, station_of, line_why}
use Rattle.ghcn_files.specs.Meaning.StationLines.{printable}

-- the first test that fails, by how each test came out
abbrev pub why_by : Bool → Bool → Bool → Bool → Bool → Option StationWhy
why_by long id north east bad =
    cond long (cond id (cond north (cond east (cond (not bad) None (Some BadElevation)) (Some BadLongitude))
    (Some BadLatitude)) (Some BadId)) (Some Short)

-- how the tests of a line that is long enough came out
pub record Tested (line : List ℕ) (id north east bad : Bool) : Type 0 where
  pub long : 30 ≤ length line
  pub id_is : is_id (columns 1 11 line) ≡ id
  pub north_is : is_latitude (latitude line) ≡ north
  pub east_is : is_longitude (longitude line) ≡ east
  pub bad_is : is_bad (elevation line) ≡ bad

-- the first test that fails is that of how the tests came out
pub line_why-tested : {line : List ℕ} {id north east bad : Bool} → Tested line id north east bad
    → line_why line ≡ why_by true id north east bad
line_why-tested {line} {id} {north} {east} {bad} t =
    let in_north : Bool = is_latitude (latitude line) in
    let in_east : Bool = is_longitude (longitude line) in
    ap (λ (b : Bool). why_by b (is_id (columns 1 11 line)) in_north in_east (is_bad (elevation line)))
    (le-leb 30 (length line) t.long)
    ∙ ap (λ (b : Bool). why_by true b in_north in_east (is_bad (elevation line))) t.id_is
    ∙ ap (λ (b : Bool). why_by true id b in_east (is_bad (elevation line)))
    t.north_is
    ∙ ap (λ (b : Bool). why_by true id north b (is_bad (elevation line)))
    t.east_is
    ∙ ap (λ (b : Bool). why_by true id north east b) t.bad_is

-- the numbers of a line, one by one
pub numbers_of-parts : (line : List ℕ) (north east : ℤ) (height : Option ℤ)
    → north ≡ number_of (latitude line) → east ≡ number_of (longitude line) → height ≡ unless_missing (elevation line)
    → record { latitude = north; longitude = east; elevation = height } ≡ numbers_of line
numbers_of-parts line north east height n e h = cc

-- the station of a line, by its parts
pub station_of-parts : (line : List ℕ) (id : StationId) (north east : ℤ) (height : Option ℤ) (state name : List ℕ)
    → id ≡ id_of line → north ≡ number_of (latitude line) → east ≡ number_of (longitude line)
    → height ≡ unless_missing (elevation line) → state ≡ map printable (columns 39 40 line)
    → name ≡ map printable (columns 42 71 line)
    → record { id = id; latitude = north; longitude = east; elevation = height; state = state; name = name }
    ≡ station_of line
station_of-parts line id north east height state name i n e h s m = cc

-- A line of the station list: its fields, and the first test that it fails by itself.
use Rattle.std.specs.Prelude.{ℕ, Bool, false, ◌&&◌, ◌==◌, not, nat_le, if◌then◌else◌, List, [], ◌∷◌, length, map}
use Rattle.std.specs.Prelude.{Option, None, Some, ℤ, pos, neg_ℤ, int_le, unsigned_abs}
use Rattle.std.specs.List.{list_all}
use Rattle.std.specs.Ordering.{int_eq}
use Rattle.ghcn_fields.specs.declared.field.Field.{Field}
use Rattle.ghcn_fields.specs.declared.field.Field.TheVariants.{Blank, Number, Bad}
use Rattle.ghcn_fields.specs.Meaning.Lines.{columns}
use Rattle.ghcn_fields.specs.Faults.{first_failing}
use Rattle.ghcn_fields.specs.Numbers.{scaled_field}
pub use Rattle.ghcn_fields.specs.Numbers.{is_bad}
use Rattle.ghcn_files.specs.declared.station.StationId.{StationId}
use Rattle.ghcn_files.specs.declared.station.Numbers.{Numbers}
use Rattle.ghcn_files.specs.declared.station.Station.{Station}
use Rattle.ghcn_files.specs.declared.fault.StationWhy.{StationWhy}
use Rattle.ghcn_files.specs.declared.fault.StationWhy.TheVariants.{Short, BadId, BadLatitude, BadLongitude}
use Rattle.ghcn_files.specs.declared.fault.StationWhy.TheVariants.{BadElevation}
use Rattle.ghcn_files.specs.Ids.{is_id}
use Rattle.ghcn_files.specs.Meaning.StationLines.{is_printable, printable}

-- the ID that a line begins with
abbrev pub id_of : List ℕ → StationId
id_of line = record { 0 = columns 1 11 line }

-- a field has a number from low to high
abbrev pub is_number_within : ℤ → ℤ → Field → Bool
is_number_within low high Blank = false
is_number_within low high (Number z) = int_le low z && int_le z high
is_number_within low high Bad = false

-- the number of a field, or 0 if it has none. On a line without an error each field that is read so has one.
abbrev pub number_of : Field → ℤ
number_of Blank = pos 0
number_of (Number z) = z
number_of Bad = pos 0

-- the number of a field, if it has one from low to high
abbrev pub number_within : ℤ → ℤ → Field → Option ℤ
number_within low high field = if is_number_within low high field then Some (number_of field) else None

-- the natural number of a field, if it has one from 1 to a limit
abbrev pub natural_up_to : ℕ → Field → Option ℕ
natural_up_to limit field =
    if is_number_within (pos 1) (pos limit) field then Some (unsigned_abs (number_of field)) else None

-- the number of a field, if it has one and that isn't -9999, which stands for a missing one
abbrev pub unless_missing : Field → Option ℤ
unless_missing Blank = None
unless_missing (Number z) = if int_eq z (neg_ℤ (pos 9999)) then None else Some z
unless_missing Bad = None

-- the latitude on a line: degrees north, in ten-thousandths
abbrev pub latitude : List ℕ → Field
latitude line = scaled_field 4 (columns 13 20 line)

-- the longitude on a line: degrees east, in ten-thousandths
abbrev pub longitude : List ℕ → Field
longitude line = scaled_field 4 (columns 22 30 line)

-- the elevation on a line, in tenths of a metre
abbrev pub elevation : List ℕ → Field
elevation line = scaled_field 1 (columns 32 37 line)

-- from 90 degrees south to 90 degrees north
abbrev pub is_latitude : Field → Bool
is_latitude field = is_number_within (neg_ℤ (pos 900_000)) (pos 900_000) field

-- from 180 degrees west to 180 degrees east
abbrev pub is_longitude : Field → Bool
is_longitude field = is_number_within (neg_ℤ (pos 1_800_000)) (pos 1_800_000) field

-- the numbers of a line
abbrev pub numbers_of : List ℕ → Numbers
numbers_of line = record {
  latitude = number_of (latitude line);
  longitude = number_of (longitude line);
  elevation = unless_missing (elevation line);
}

-- the station that a line of the list describes
abbrev pub station_of : List ℕ → Station
station_of line = record {
  id = id_of line;
  latitude = number_of (latitude line);
  longitude = number_of (longitude line);
  elevation = unless_missing (elevation line);
  state = map printable (columns 39 40 line);
  name = map printable (columns 42 71 line);
}

-- the first test that a line fails by itself
abbrev pub line_why : List ℕ → Option StationWhy
line_why line = first_failing (
    (nat_le 30 (length line), Short)
    ∷ (is_id (columns 1 11 line), BadId)
    ∷ (is_latitude (latitude line), BadLatitude)
    ∷ (is_longitude (longitude line), BadLongitude)
    ∷ (not (is_bad (elevation line)), BadElevation)
    ∷ [])

-- what is true of the station of a line without an error
abbrev pub is_station : Station → Bool
is_station s =
    is_id s.id.0 && is_latitude (Number s.latitude) && is_longitude (Number s.longitude)
    && list_all is_printable s.state && list_all is_printable s.name && (length s.name == 30)

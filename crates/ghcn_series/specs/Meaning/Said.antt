-- What the lines of a station list and of daily files say: which numbers their fields have, and not how these are read.
use Rattle.std.specs.Prelude.{◌≡◌, ◌≢◌, ◌↔◌, ◌⊎◌, ◌<◌, ◌≤ℤ◌, ℕ, ◌+◌, ◌*◌, Bool, true, not, ◌&&◌, List, length, map, filter}
use Rattle.std.specs.Prelude.{Some, ℤ, pos, neg_ℤ}
use Rattle.std.specs.List.{AllZip, Contains, flat_map, list_any}
use Rattle.std.specs.List.Sorted.{IsStrictlySortedBy}
use Rattle.std.specs.Ordering.{int_cmp}
use Rattle.ghcn_fields.specs.Meaning.Bytes.{is_blank, same_bytes}
use Rattle.ghcn_fields.specs.Meaning.Dates.{civil}
use Rattle.ghcn_fields.specs.Meaning.Days.{is_day}
use Rattle.ghcn_fields.specs.Meaning.Fields.{HasNumber}
use Rattle.ghcn_fields.specs.Meaning.Lines.{columns, lines}
use Rattle.ghcn_files.specs.declared.station.Station.{Station}
use Rattle.ghcn_files.specs.Meaning.Elements.{code_of, elements, may_be_negative}
use Rattle.ghcn_files.specs.Meaning.StationLines.{printable}
use Rattle.ghcn_series.specs.Meaning.Says.{Fact}
use Rattle.ghcn_series.specs.Meaning.Series.{Series}

-- ---- the station list

-- a line of the station list says a station. Latitude and longitude are in ten-thousandths of a degree, and the elevation
-- is in tenths of a metre. There is none if the field has no number, or has -9999, which stands for a missing one.
pub record SaysStation (line : List ℕ) (s : Station) : Type 0 where
  pub id : s.id.0 ≡ columns 1 11 line
  pub latitude : HasNumber 4 (columns 13 20 line) s.latitude
  pub longitude : HasNumber 4 (columns 22 30 line) s.longitude
  pub elevation : (v : ℤ) → (s.elevation ≡ Some v)
      ↔ (HasNumber 1 (columns 32 37 line) v × (v ≢ neg_ℤ (pos 9999)))
  pub state : s.state ≡ map printable (columns 39 40 line)
  pub name : s.name ≡ map printable (columns 42 71 line)

-- a list says these stations, in its order: one on each line that isn't blank
abbrev pub SaysStations : List ℕ → List Station → Type 0
SaysStations text stations = AllZip SaysStation (filter (λ l. not (is_blank l)) (lines text)) stations

-- ---- daily files

-- a line of a daily file says a fact: of its station and element, on a day of its year and month. In the group of columns
-- of that day, the value is a number other than -9999, which stands for a missing one, and the quality flag is a blank.
pub record SaysFact (line : List ℕ) (f : Fact) : Type 0 where
  pub id : f.id.0 ≡ columns 1 11 line
  pub element : code_of f.element ≡ columns 18 21 line
  pub in_calendar : is_day f.day ≡ true
  pub date : ℕ × ℕ × ℕ
  pub of_day : civil f.day ≡ date
  pub year : HasNumber 0 (columns 12 15 line) (pos date.0)
  pub month : HasNumber 0 (columns 16 17 line) (pos date.1)
  pub value : HasNumber 0 (columns (14 + 8 * date.2) (18 + 8 * date.2) line) f.value
  pub there : f.value ≢ neg_ℤ (pos 9999)
  pub unflagged : is_blank (columns (20 + 8 * date.2) (20 + 8 * date.2) line) ≡ true

-- daily files say a fact that counts: a line of them says it, and it isn't negative if its element has no negative values
pub record IsSaid (files : List (List ℕ)) (f : Fact) : Type 0 where
  pub line : List ℕ
  pub among : Contains (flat_map lines files) line
  pub says : SaysFact line f
  pub counts : (may_be_negative f.element ≡ true) ⊎ (pos 0 ≤ℤ f.value)

-- a line of a daily file has the code of one of the five elements, but the ID of none of these stations
abbrev pub is_unlisted : List Station → List ℕ → Bool
is_unlisted stations line =
    list_any (λ e. same_bytes (code_of e) (columns 18 21 line)) elements
    && not (list_any (λ s. same_bytes s.id.0 (columns 1 11 line)) stations)

-- ---- series

-- a series is made of facts: it has a day, its days and values are those of the facts of its station and element, in
-- order of day, each day once
pub record IsMadeOf (IsFact : Fact → Type 0) (s : Series) : Type 0 where
  pub some : 0 < length s.days
  pub are : (day value : ℤ) → Contains s.days (day, value)
      ↔ IsFact (record { id = s.id; element = s.element; day = day; value = value })
  pub by_day : IsStrictlySortedBy int_cmp (map (λ x. x.0) s.days)

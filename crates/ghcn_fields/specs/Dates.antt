-- The day whose date a text is.
use Rattle.std.specs.Prelude.{ℕ, if◌then◌else◌, List, Option, None, ℤ}
use Rattle.std.specs.Str.Parse.{digits_value}
use Rattle.std.specs.List.{slice_range}
use Rattle.ghcn_fields.specs.Meaning.Bytes.{same_bytes}
use Rattle.ghcn_fields.specs.Days.{day_number}
use Rattle.ghcn_fields.specs.Meaning.Dates.{date_bytes}

-- the day whose text the bytes are
abbrev pub read_date : List ℕ → Option ℤ
read_date bytes =
    let year = digits_value 10 (slice_range bytes 0 4) in
    let month = digits_value 10 (slice_range bytes 5 7) in
    let day = digits_value 10 (slice_range bytes 8 10) in
    if same_bytes (date_bytes (year, month, day)) bytes then day_number year month day else None

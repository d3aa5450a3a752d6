-- Laws of days, dates and fields: what the definitions of this crate mean together.
use Rattle.std.specs.Prelude.{◌≡◌, ◌↔◌, ℕ, List, Some, ℤ, IsTrue, FitsSigned}
use Rattle.std.specs.Int.{w32}
use Rattle.ghcn_fields.specs.declared.field.Field.TheVariants.{Number}
use Rattle.ghcn_fields.specs.Meaning.Days.{is_day}
use Rattle.ghcn_fields.specs.Days.{day_number}
use Rattle.ghcn_fields.specs.Meaning.Dates.{civil, date_text}
use Rattle.ghcn_fields.specs.Dates.{read_date}
use Rattle.ghcn_fields.specs.Numbers.{scaled_field}
use Rattle.ghcn_fields.specs.Meaning.Fields.{HasNumber}

-- a date has the number of a day if and only if it is that day's year, month and day of the month
abbrev pub DatesAreOfDays : Type 0
DatesAreOfDays = (year month day : ℕ) (n : ℤ) →
    (day_number year month day ≡ Some n) ↔ (IsTrue (is_day n) × (civil n ≡ (year, month, day)))

-- a text is read as a day if and only if it is the day's text
abbrev pub TextsAreOfDays : Type 0
TextsAreOfDays = (text : List ℕ) (n : ℤ) → (read_date text ≡ Some n) ↔ (IsTrue (is_day n) × (text ≡ date_text n))

-- a field is read as a number if and only if it has the number and 32 bits hold it
abbrev pub FieldsHaveNumbers : Type 0
FieldsHaveNumbers = (places : ℕ) (field : List ℕ) (v : ℤ) →
    (scaled_field places field ≡ Number v) ↔ (HasNumber places field v × FitsSigned w32 v)

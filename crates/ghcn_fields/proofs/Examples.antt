-- Worked examples of the definitions, by computation.
use Rattle.std.proofs.Common.{◌≡◌, [], ◌∷◌, refl, Some, None, true, lit≤}
use Rattle.std.specs.Prelude.{codes, pos, negsuc, neg_ℤ}
use Rattle.std.specs.Fmt.{digits}
use Rattle.jiff_core.specs.Calendar.{days_from_civil, day_count, days_of_years, days_of_months}
use Rattle.ghcn_fields.specs.declared.field.Field.TheVariants.{Blank, Number, Bad}
use Rattle.ghcn_fields.specs.Meaning.Lines.{lines, columns}
use Rattle.ghcn_fields.specs.Lines.{numbered_lines}
use Rattle.ghcn_fields.specs.Numbers.{int_field, scaled_field}
use Rattle.ghcn_fields.specs.Meaning.NumberTexts.{tenths, four_places}
use Rattle.ghcn_fields.specs.NumberTexts.{whole}
use Rattle.ghcn_fields.specs.Meaning.Fields.{HasNumber}
use Rattle.ghcn_fields.specs.Days.{day_number, block_of}
use Rattle.ghcn_fields.specs.Meaning.Dates.{civil, year_and_rest, month_and_day, date_text}
use Rattle.ghcn_fields.specs.Dates.{read_date}

-- a field with a blank between digits is bad
blanks_inside : int_field (codes "12 34") ≡ Bad
blanks_inside = refl

-- a minus before a zero is read
minus_zero : int_field (codes "   -0") ≡ Number (pos 0)
minus_zero = refl

-- the number of a missing value
missing : int_field (codes "-9999") ≡ Number (negsuc 9998)
missing = refl

-- blanks alone, or nothing
all_blank : (int_field (codes "     ") ≡ Blank) × (int_field [] ≡ Blank)
all_blank = (refl, refl)

-- a blank before the digits but none after them; a tab isn't a blank; a minus alone, two of them, a plus and a point
last_column : (int_field (codes " 7") ≡ Number (pos 7)) × (int_field (codes "7 ") ≡ Bad)
    × (int_field (9 ∷ codes "7") ≡ Bad) × (int_field (codes "   -") ≡ Bad) × (int_field (codes "--7") ≡ Bad)
    × (int_field (codes "   +7") ≡ Bad) × (int_field (codes "7.0") ≡ Bad)
last_column = (refl, refl, refl, refl, refl, refl, refl)

-- the greatest number, and one past it
too_large : (int_field (codes "2147483648") ≡ Bad) × (int_field (codes "2147483647") ≡ Number (pos 2147483647))
too_large = (refl, refl)

-- the least number, and one past it
least : (int_field (codes "-2147483648") ≡ Number (negsuc 2147483647)) × (int_field (codes "-2147483649") ≡ Bad)
least = (refl, refl)

-- numbers with places
scaled : (scaled_field 4 (codes " 10.0000") ≡ Number (pos 100000))
    × (scaled_field 4 (codes "-91") ≡ Number (neg_ℤ (pos 910000))) × (scaled_field 1 (codes "100.") ≡ Bad)
    × (scaled_field 1 (codes "  2.55") ≡ Bad)
scaled = (refl, refl, refl, refl)

-- half a degree with one decimal or with all four; a digit before the point and one after it, and no fifth decimal
degrees : (scaled_field 4 (codes " 90.5000") ≡ Number (pos 905000))
    × (scaled_field 4 (codes "90.5") ≡ Number (pos 905000))
    × (scaled_field 4 (codes " -0.0001") ≡ Number (negsuc 0)) × (scaled_field 4 (codes "  .5") ≡ Bad)
    × (scaled_field 4 (codes " -.5") ≡ Bad) × (scaled_field 4 (codes "0.00001") ≡ Bad)
    × (scaled_field 0 (codes "7.0") ≡ Bad)
degrees = (refl, refl, refl, refl, refl, refl, refl)

-- the definition by a reader and the one by a relation at one field
has_tenths : HasNumber 1 (codes " -0.5") (neg_ℤ (pos 5))
has_tenths = record {
  blanks = 1;
  text = codes "-0.5";
  parts = refl;
  spells = record {
    negative = true;
    whole = codes "0";
    part = codes "5";
    parts = refl;
    some_digit = lit≤ tt;
    digits = refl;
    few = lit≤ tt;
    value = refl;
  };
}

-- a return before a line feed, an empty line, a last line without an end
three_lines : lines (97 ∷ 13 ∷ 10 ∷ 10 ∷ 98 ∷ []) ≡ codes "a" ∷ [] ∷ codes "b" ∷ []
three_lines = refl

-- the same with their numbers
three_numbers : numbered_lines (97 ∷ 13 ∷ 10 ∷ 10 ∷ 98 ∷ []) ≡ (1, codes "a") ∷ (2, []) ∷ (3, codes "b") ∷ []
three_numbers = refl

-- a return at the end of the last line is taken off
last_return : lines (97 ∷ 10 ∷ 98 ∷ 13 ∷ []) ≡ codes "a" ∷ codes "b" ∷ []
last_return = refl

-- of two returns one is taken off, and one inside a line stays; no text has no line, and a line feed has one
other_returns : (lines (97 ∷ 13 ∷ 13 ∷ 10 ∷ []) ≡ (97 ∷ 13 ∷ []) ∷ [])
    × (lines (97 ∷ 13 ∷ 98 ∷ 10 ∷ []) ≡ (97 ∷ 13 ∷ 98 ∷ []) ∷ []) × (lines [] ≡ []) × (lines (10 ∷ []) ≡ [] ∷ [])
other_returns = (refl, refl, refl, refl)

-- columns inside a line and past its end
cut_columns : (columns 2 3 (codes "abc") ≡ codes "bc") × (columns 3 5 (codes "abc") ≡ codes "c  ")
cut_columns = (refl, refl)

-- half below zero
tenths_text : tenths (negsuc 4) ≡ codes "-0.5"
unfolding digits
tenths_text = refl

-- a whole number below zero
whole_text : whole (negsuc 9998) ≡ codes "-9999"
unfolding digits
whole_text = refl

-- degrees with four decimals
four_places_text : four_places (neg_ℤ (pos 910000)) ≡ codes "-91.0000"
unfolding digits
four_places_text = refl

-- 1900 wasn't a leap year
no_leap_day : day_number 1900 2 29 ≡ None
no_leap_day = refl

-- three days with their numbers
numbered : (day_number 1970 1 1 ≡ Some (pos 0)) × (day_number 2020 7 1 ≡ Some (pos 18444))
    × (day_number 1 1 1 ≡ Some (neg_ℤ (pos 719162)))
unfolding days_from_civil day_count days_of_years days_of_months
numbered = (refl, refl, refl)

-- the last day
last_numbered : day_number 9999 12 31 ≡ Some (pos 2932896)
unfolding days_from_civil day_count days_of_years days_of_months
last_numbered = refl

-- two numbers with their dates
dated : (civil (pos 18444) ≡ (2020, 7, 1)) × (civil (negsuc 0) ≡ (1969, 12, 31))
unfolding year_and_rest month_and_day
dated = (refl, refl)

-- a date as a text
written : date_text (pos 18444) ≡ codes "2020-07-01"
unfolding year_and_rest month_and_day
written = refl

-- a text as a date
read : read_date (codes "2020-07-01") ≡ Some (pos 18444)
unfolding days_from_civil day_count days_of_years days_of_months
read = refl

-- texts that aren't dates
not_read : (read_date (codes "2019-02-29") ≡ None) × (read_date (codes "2020-7-1") ≡ None)
    × (read_date (codes "2020-07-01 ") ≡ None)
not_read = (refl, refl, refl)

-- blocks after and before 1970
blocks : (block_of (pos 18444) ≡ pos 576) × (block_of (negsuc 0) ≡ negsuc 0)
blocks = (refl, refl)

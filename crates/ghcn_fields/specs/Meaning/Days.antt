-- Days of the years 1 to 9999 by number: 1970-01-01 is day 0, and a day before it is negative.
use Rattle.std.specs.Prelude.{ℕ, Bool, ◌&&◌, nat_le, ℤ, pos, neg_ℤ, int_le}

-- n lies from low to high
abbrev pub is_within : ℕ → ℕ → ℕ → Bool
is_within low high n = nat_le low n && nat_le n high

-- the number of the first day, 0001-01-01
abbrev pub first_day : ℤ
first_day = neg_ℤ (pos 719_162)

-- the number of the last day, 9999-12-31
abbrev pub last_day : ℤ
last_day = pos 2_932_896

-- n is the number of a day of the years 1 to 9999
abbrev pub is_day : ℤ → Bool
is_day n = int_le first_day n && int_le n last_day

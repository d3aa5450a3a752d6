-- Numbers as fields spell them, read from the left.
use Rattle.std.specs.Prelude.{ℕ, ◌+◌, ◌*◌, ◌-◌, ◌^◌, Bool, true, false, ◌==◌, nat_lt, nat_le, if◌then◌else◌, List, []}
use Rattle.std.specs.Prelude.{◌∷◌, length, Option, None, Some, ℤ, pos, negsuc}
use Rattle.std.specs.List.{list_all, list_any, before_first, after_first}
use Rattle.std.specs.Option.{option_map}
use Rattle.std.specs.Char.{is_ascii_digit}
use Rattle.std.specs.Str.Parse.{digits_value}
use Rattle.ghcn_fields.specs.declared.field.Field.{Field}
use Rattle.ghcn_fields.specs.declared.field.Field.TheVariants.{Blank, Number, Bad}
use Rattle.ghcn_fields.specs.Meaning.Bytes.{blank_byte}
use Rattle.ghcn_fields.specs.Meaning.Numbers.{with_sign}

-- a text without the blanks at its front
abbrev pub after_blanks : List ℕ → List ℕ
after_blanks [] = []
after_blanks (b ∷ bytes) = if b == blank_byte then after_blanks bytes else b ∷ bytes

-- the number that a text writes, if it is one digit or more and nothing else
abbrev pub natural : List ℕ → Option ℕ
natural [] = None
natural (d ∷ ds) = if list_all is_ascii_digit (d ∷ ds) then Some (digits_value 10 (d ∷ ds)) else None

-- the number of a decimal, in units of the last of some decimal places, by the numbers before and after its point and
-- by how many digits are after the point. There is none if one of the two isn't a number, or if there are more digits
-- than places. With 4 places `12.5` is 125000: 12 is before the point, and 5, which is one digit, after it.
abbrev pub joined : ℕ → Option ℕ → Option ℕ → ℕ → Option ℕ
joined places None part len = None
joined places (Some whole) None len = None
joined places (Some whole) (Some part) len =
    if nat_le len places then Some (whole * 10 ^ places + part * 10 ^ (places - len)) else None

-- the number that a text without a sign writes, in units of the last of some decimal places. The text is digits, or
-- digits, a point, and one digit or more, but no more than there are places; any other text writes none.
abbrev pub decimal_number : ℕ → List ℕ → Option ℕ
decimal_number places bytes =
    if list_any (λ b. b == 46) bytes
    then joined places (natural (before_first (λ b. b == 46) bytes)) (natural (after_first (λ b. b == 46) bytes))
    (length (after_first (λ b. b == 46) bytes))
    else option_map (λ n. n * 10 ^ places) (natural bytes)

-- the number of a text that may begin with a minus; `read` says which number the rest of the text writes
abbrev pub signed_by : (List ℕ → Option ℕ) → List ℕ → Option ℤ
signed_by read [] = None
signed_by read (b ∷ bytes) =
    if b == 45 then option_map (with_sign true) (read bytes) else option_map (with_sign false) (read (b ∷ bytes))

-- whether a number is from -2^31 to 2^31 - 1
abbrev pub is_i32 : ℤ → Bool
is_i32 (pos n) = nat_lt n (2 ^ 31)
is_i32 (negsuc n) = nat_lt n (2 ^ 31)

-- what a field holds that isn't blank: the number that was read, if it is in this range; otherwise the field is bad
abbrev pub field_of : Option ℤ → Field
field_of None = Bad
field_of (Some z) = if is_i32 z then Number z else Bad

-- what a field holds: it is blank, or has the number that `read` reads after the blanks at its front, or is bad
abbrev pub field_by : (List ℕ → Option ℤ) → List ℕ → Field
field_by read bytes = if length (after_blanks bytes) == 0 then Blank else field_of (read (after_blanks bytes))

-- what a field for whole numbers holds
abbrev pub int_field : List ℕ → Field
int_field bytes = field_by (signed_by natural) bytes

-- what a field for decimal numbers holds, in units of the last of some decimal places
abbrev pub scaled_field : ℕ → List ℕ → Field
scaled_field places bytes = field_by (signed_by (decimal_number places)) bytes

-- the number, if it is at most a limit
abbrev pub up_to : ℕ → Option ℕ → Option ℕ
up_to limit None = None
up_to limit (Some n) = if nat_le n limit then Some n else None

-- a field is neither blank nor a number
abbrev pub is_bad : Field → Bool
is_bad Blank = false
is_bad (Number z) = false
is_bad Bad = true

-- the number of a field, or another one if it has none
abbrev pub number_or : ℤ → Field → ℤ
number_or other Blank = other
number_or other (Number z) = z
number_or other Bad = other

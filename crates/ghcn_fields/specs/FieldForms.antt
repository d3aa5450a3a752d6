-- A number field by its columns: which bytes may be side by side, and what each adds to the number.
use Rattle.std.specs.Prelude.{◌≡◌, ℕ, ◌+◌, ◌*◌, ◌-◌, ◌/◌, ◌%◌, ◌<◌, Bool, true, false, ◌&&◌, ◌||◌, ◌==◌}
use Rattle.std.specs.Prelude.{if◌then◌else◌, nat_le, List, [], ◌∷◌, ◌++◌, ℤ, pos, neg_ℤ, Option, None, Some}
use Rattle.std.specs.Char.{is_ascii_digit}
use Rattle.std.specs.List.{list_any}
use Rattle.ghcn_fields.specs.declared.field.Field.{Field}
use Rattle.ghcn_fields.specs.declared.field.Field.TheVariants.{Number}
use Rattle.ghcn_fields.specs.declared.value.Form.{Form}
use Rattle.ghcn_fields.specs.declared.value.Form.TheVariants.{Blanks, Plain, Negative, Malformed}
use Rattle.ghcn_fields.specs.Meaning.Bytes.{blank_byte, is_blank}

-- the number that a byte writes by itself, 0 if it isn't a digit
abbrev pub digit_of : ℕ → ℕ
digit_of b = if is_ascii_digit b then b - 48 else 0

-- a byte that may come before another one in a number: a blank before any, a minus or a digit before a digit
abbrev pub may_precede : ℕ → ℕ → Bool
may_precede b next = (b == blank_byte) || ((is_ascii_digit b || (b == 45)) && is_ascii_digit next)

-- blanks, an optional minus, and digits to the end, by which bytes are side by side
abbrev pub is_number_form : List ℕ → Bool
is_number_form [] = false
is_number_form (b ∷ []) = is_ascii_digit b
is_number_form (b ∷ c ∷ bytes) = may_precede b c && is_number_form (c ∷ bytes)

-- the number that digits write after n, if any other byte counts as a zero
abbrev pub digits_behind : ℕ → List ℕ → ℕ
digits_behind n [] = n
digits_behind n (b ∷ bytes) = digits_behind (n * 10 + digit_of b) bytes

-- a minus
abbrev pub is_minus : ℕ → Bool
is_minus b = b == 45

-- what the columns of a field are together
abbrev pub form_of_field : List ℕ → Form
form_of_field bytes =
    if is_number_form bytes
    then (if list_any is_minus bytes then Negative else Plain)
    else (if is_blank bytes then Blanks else Malformed)

-- the kind of a byte in a number: 0 a blank, 1 a minus, 2 a digit, 3 any other
abbrev pub kind_of : ℕ → ℕ
kind_of b = if is_ascii_digit b then 2 else (if b == blank_byte then 0 else (if b == 45 then 1 else 3))

-- a byte of a kind may come before one of another kind
abbrev pub kind_may_precede : ℕ → ℕ → Bool
kind_may_precede k next = (k == 0) || (((k == 2) || (k == 1)) && (next == 2))

-- what five kinds are together
abbrev pub form_of_five : ℕ → ℕ → ℕ → ℕ → ℕ → Form
form_of_five a b c d e =
    if kind_may_precede a b && (kind_may_precede b c && (kind_may_precede c d && (kind_may_precede d e && (e == 2))))
    then (if (a == 1) || ((b == 1) || ((c == 1) || ((d == 1) || (e == 1)))) then Negative else Plain)
    else (if (a == 0) && ((b == 0) && ((c == 0) && ((d == 0) && (e == 0)))) then Blanks else Malformed)

-- the same of kinds in one number, of which the first is the last digit in base 4
abbrev pub form_of_kinds : ℕ → Form
form_of_kinds n = form_of_five (n % 4) (n / 4 % 4) (n / 16 % 4) (n / 64 % 4) (n / 256)

-- below bit 17 the number says what the digits of a field write, and from there on what its columns are together
pub record IsSum (s : ℕ) (bytes : List ℕ) : Type 0 where
  pub magnitude : s % 131072 ≡ digits_behind 0 bytes
  pub kinds : s / 131072 < 1024
  pub form : form_of_kinds (s / 131072) ≡ form_of_field bytes

-- a form of bad fields
abbrev pub is_malformed : Form → Bool
is_malformed Blanks = false
is_malformed Plain = false
is_malformed Negative = false
is_malformed Malformed = true

-- the form of numbers without a minus
abbrev pub is_plain : Form → Bool
is_plain Blanks = false
is_plain Plain = true
is_plain Negative = false
is_plain Malformed = false

-- the number of a size in a field of this form, if that is the form of a number
abbrev pub field_of_size : Form → ℕ → Option Field
field_of_size Blanks n = None
field_of_size Plain n = Some (Number (pos n))
field_of_size Negative n = Some (Number (neg_ℤ (pos n)))
field_of_size Malformed n = None

-- the number of a magnitude in a field of this form, or another one if it has none
abbrev pub number_by : Form → ℕ → ℤ → ℤ
number_by Blanks n other = other
number_by Plain n other = pos n
number_by Negative n other = neg_ℤ (pos n)
number_by Malformed n other = other

-- each lane of a byte has all its bits, except for those after a field
abbrev pub are_set_but : List Bool → List ℕ → Bool
are_set_but [] lanes = true
are_set_but (behind ∷ more) [] = true
are_set_but (behind ∷ more) (lane ∷ lanes) = (behind || nat_le 255 lane) && are_set_but more lanes

-- five of eight columns are those of a field, and three are after it
abbrev pub five_of_eight : List Bool
five_of_eight = false ∷ false ∷ false ∷ false ∷ false ∷ true ∷ true ∷ true ∷ []

-- each lane of two fields has all its bits
abbrev pub are_set : List ℕ → Bool
are_set lanes = are_set_but (five_of_eight ++ five_of_eight) lanes

-- each lane is 0, except for those after a field
abbrev pub are_clear_but : List Bool → List ℕ → Bool
are_clear_but [] lanes = true
are_clear_but (behind ∷ more) [] = true
are_clear_but (behind ∷ more) (lane ∷ lanes) = (behind || (lane == 0)) && are_clear_but more lanes

-- each lane of two fields is 0
abbrev pub are_clear : List ℕ → Bool
are_clear lanes = are_clear_but (five_of_eight ++ five_of_eight) lanes

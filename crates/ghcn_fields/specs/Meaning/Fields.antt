-- Which number a field has: blanks, and then a spelling of it.
use Rattle.std.specs.Prelude.{◌≡◌, ℕ, ◌+◌, ◌*◌, ◌-◌, ◌^◌, ◌≤◌, Bool, true, false, List, [], ◌∷◌, ◌++◌, length}
use Rattle.std.specs.Prelude.{replicate, ℤ}
use Rattle.std.specs.List.{list_all}
use Rattle.std.specs.Char.{is_ascii_digit}
use Rattle.std.specs.Str.Parse.{digits_value}
use Rattle.ghcn_fields.specs.Meaning.Bytes.{blank_byte}
use Rattle.ghcn_fields.specs.Meaning.Numbers.{with_sign}

-- a minus, or nothing
abbrev pub sign_text : Bool → List ℕ
sign_text true = 45 ∷ []
sign_text false = []

-- a point and these digits, or nothing if there are no digits
abbrev pub part_text : List ℕ → List ℕ
part_text [] = []
part_text (d ∷ ds) = 46 ∷ d ∷ ds

-- a text spells v, in units of the last of some decimal places: it is an optional minus, one digit or more, and then
-- optionally a point and one digit or more, but no more than there are places. With one place `-0.5` spells -5.
pub record Spells (places : ℕ) (text : List ℕ) (v : ℤ) : Type 0 where
  pub negative : Bool
  pub whole : List ℕ
  pub part : List ℕ
  pub parts : text ≡ sign_text negative ++ whole ++ part_text part
  pub some_digit : 1 ≤ length whole
  pub digits : list_all is_ascii_digit (whole ++ part) ≡ true
  pub few : length part ≤ places
  pub value : v ≡ with_sign negative (digits_value 10 whole * 10 ^ places + digits_value 10 part * 10 ^
      (places - length part))

-- a field has the number v: it is blanks, and then a text that spells v
pub record HasNumber (places : ℕ) (field : List ℕ) (v : ℤ) : Type 0 where
  pub blanks : ℕ
  pub text : List ℕ
  pub parts : field ≡ replicate blanks blank_byte ++ text
  pub spells : Spells places text v

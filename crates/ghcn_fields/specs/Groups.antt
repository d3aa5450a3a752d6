-- A group of eight columns: a number field of five, and three flags after it.
use Rattle.std.specs.Prelude.{◌≡◌, ℕ, ◌*◌, ◌<◌, ◌==◌, false, if◌then◌else◌, List, get_or, take, drop, ℤ, pos, neg_ℤ}
use Rattle.ghcn_fields.specs.Meaning.Bytes.{blank_byte}
use Rattle.ghcn_fields.specs.Numbers.{int_field, is_bad, number_or}

-- the number of a group's field, if its second flag is a blank, or another one
abbrev pub number_of_group : ℤ → List ℕ → ℤ
number_of_group other group =
    if get_or group 6 blank_byte == blank_byte then number_or other (int_field (take 5 group)) else other

-- the numbers of four groups; that of a bad field may be any
abbrev pub AreNumbers : ℤ → List ℕ → List ℤ → Type 0
AreNumbers other columns numbers = (k : ℕ) → k < 4 → is_bad (int_field (take 5 (drop (8 * k) columns))) ≡ false
    → get_or numbers k (pos 0) ≡ number_of_group other (drop (8 * k) columns)

-- the number of a magnitude, below zero if there are minuses, if what blanks count says that the second flag
-- is one and the field's last column isn't, or another number
abbrev pub number_if : ℕ → ℕ → ℕ → ℤ → ℤ
number_if blanks minuses size other =
    if blanks == 65536 then (if minuses == 0 then pos size else neg_ℤ (pos size)) else other

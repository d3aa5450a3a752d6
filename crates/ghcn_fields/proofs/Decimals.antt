-- Decimal numbers: where the point is, and what is too great.
use Rattle.std.proofs.Common.{◌≡◌, ℕ, ◌+◌, ◌*◌, ◌^◌, ◌≤◌, Bool, true, false, List, length}
use Rattle.std.proofs.Common.{take, drop, get_or, Option, Some, None, arith}
use Rattle.std.specs.Prelude.{◌≢◌, ◌==◌, if◌then◌else◌}
use Rattle.std.specs.List.{list_any, before_first, after_first}
use Rattle.std.specs.Option.{option_map}
use Rattle.std.proofs.Math.Nat.{one-le-pow, le-mul_of_pos_right}
use Rattle.std.proofs.lemmas.Bool.Decides.{nat_tests}
use Rattle.std.proofs.lemmas.List.{get_or_default}
use Rattle.std.proofs.lemmas.List.Sums.{position_or_len_is}
use Rattle.std.proofs.lemmas.List.Folds.{list_any_none, list_any_at}
use Rattle.memchr.specs.Find.{IsFirstByte, is_byte}
use Rattle.ghcn_fields.specs.Meaning.Numbers.{with_sign}
use Rattle.ghcn_fields.specs.Numbers.{natural, joined, decimal_number, up_to, field_of, field_by, signed_by}
use Rattle.ghcn_fields.specs.Numbers.{after_blanks}

-- a point
abbrev pub is_point : ℕ → Bool
is_point b = b == 46

-- a decimal number, by whether it has a point
pub decimal_number-by : (places : ℕ) (text : List ℕ) {has : Bool} → list_any is_point text ≡ has
    → decimal_number places text ≡ (if has then joined places (natural (before_first is_point text))
    (natural (after_first is_point text)) (length (after_first is_point text)) else option_map
    (λ n. n * 10 ^ places) (natural text))
decimal_number-by places text is = grind arith

-- without a point the digits are whole units
pub decimal_number-whole : (places : ℕ) (text : List ℕ) → IsFirstByte (is_byte 46) text None
    → decimal_number places text ≡ option_map (λ n. n * 10 ^ places) (natural text)
decimal_number-whole places text nowhere = decimal_number-by places text (list_any_none is_point text
    (λ k d lt. grind (arith, nat_tests, get_or_default)))

-- the first point is between the whole part and the part after it
pub decimal_number-point : (places : ℕ) (text : List ℕ) (point : ℕ) → IsFirstByte (is_byte 46) text (Some point)
    → decimal_number places text ≡ joined places (natural (take point text)) (natural (drop (point + 1) text))
    (length (drop (point + 1) text))
decimal_number-point places text point first =
    grind (arith, nat_tests, decimal_number-by, position_or_len_is, list_any_at)

-- a number that is at most the limit
pub up_to-some : (limit n : ℕ) (number : Option ℕ) → up_to limit number ≡ Some n → (number ≡ Some n) × (n ≤ limit)
up_to-some limit n number e = grind arith

-- a number that is at most the limit stays
pub up_to-fits : (limit n : ℕ) → n ≤ limit → up_to limit (Some n) ≡ Some n
up_to-fits limit n fits = grind (arith, nat_tests)

-- more places don't make a number less
grows : (n k : ℕ) → n ≤ n * 10 ^ k
grows n k = le-mul_of_pos_right n (one-le-pow k 10 (omega arith))

-- a whole part beyond the limit takes the number beyond it
pub joined-whole_over : (limit places len : ℕ) (whole part : Option ℕ) → up_to limit whole ≡ None
    → up_to limit (joined places whole part len) ≡ None
joined-whole_over limit places len whole part e = grind (arith, nat_tests, grows)

-- and so does a part after the point
pub joined-part_over : (limit places len : ℕ) (whole part : Option ℕ) → up_to limit part ≡ None
    → up_to limit (joined places whole part len) ≡ None
joined-part_over limit places len whole part e = grind (arith, nat_tests, grows)

-- whole units beyond the limit are beyond it in smaller units
pub units_over : (limit places : ℕ) (number : Option ℕ) → up_to limit number ≡ None
    → up_to limit (option_map (λ n. n * 10 ^ places) number) ≡ None
units_over limit places number e = grind (arith, nat_tests, grows)

-- the field of a text that begins with a minus
pub field_by-minus : (read : List ℕ → Option ℕ) (field text : List ℕ) → text ≡ after_blanks field → 1 ≤ length text
    → get_or text 0 0 ≡ 45
    → field_by (signed_by read) field ≡ field_of (option_map (with_sign true) (up_to (2 ^ 31) (read (drop 1 text))))
field_by-minus read field text same some minus = grind arith

-- the field of a text that begins with another byte
pub field_by-plain : (read : List ℕ → Option ℕ) (field text : List ℕ) → text ≡ after_blanks field → 1 ≤ length text
    → get_or text 0 0 ≢ 45
    → field_by (signed_by read) field ≡ field_of (option_map (with_sign false) (up_to (2 ^ 31) (read text)))
field_by-plain read field text same some plain = grind arith

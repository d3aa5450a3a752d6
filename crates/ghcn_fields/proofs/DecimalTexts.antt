-- Which number a text spells, and how it is found.
use Rattle.std.proofs.Common.{◌≡◌, ℕ, ◌+◌, ◌-◌, ◌*◌, ◌^◌, ◌<◌, ◌≤◌, Bool, true, false, List, [], ◌∷◌, ◌++◌, length}
use Rattle.std.proofs.Common.{get_or, Option, Some, refl, sym, ap, ◌∙◌, inl, inr, arith, ℤ}
use Rattle.std.specs.Prelude.{◌==◌}
use Rattle.std.specs.List.{list_all, list_any, before_first, after_first, position_or_len}
use Rattle.std.specs.Option.{option_map}
use Rattle.std.specs.Char.{is_ascii_digit}
use Rattle.std.specs.Str.Parse.{digits_value}
use Rattle.std.proofs.Math.Seq.{take-append_seam, drop-append-add}
use Rattle.std.proofs.lemmas.Bool.{cases_Bool, cases_eq, and_parts}
use Rattle.std.proofs.lemmas.Bool.Decides.{nat_tests}
use Rattle.std.proofs.lemmas.List.{append-nil}
use Rattle.std.proofs.lemmas.List.Folds.{list_all-append}
use Rattle.std.proofs.lemmas.List.Sums.{split_at_first, passes_at_first}
use Rattle.std.proofs.lemmas.Grind.{common_steps}
use Rattle.ghcn_fields.specs.Meaning.Numbers.{with_sign}
use Rattle.ghcn_fields.specs.Numbers.{natural, joined, decimal_number, signed_by}
use Rattle.ghcn_fields.specs.Meaning.Fields.{part_text, sign_text, Spells}
use Rattle.ghcn_fields.proofs.Decimals.{is_point}
use Rattle.ghcn_fields.proofs.Digits.{natural-some, natural-from}

-- a digit isn't a point
no_point_digit : (d : ℕ) → is_ascii_digit d ≡ true → is_point d ≡ false
no_point_digit d is = grind (arith, nat_tests)

-- digits alone have no point
no_point : (ds : List ℕ) → list_all is_ascii_digit ds ≡ true → list_any is_point ds ≡ false
no_point [] digits = refl
no_point (d ∷ ds) digits =
    let parts = and_parts (is_ascii_digit d) (list_all is_ascii_digit ds) digits in
    rw (no_point_digit d parts.0) (no_point ds parts.1)

-- the first point comes after the digits before it
point_at : (ds rest : List ℕ) → list_all is_ascii_digit ds ≡ true
    → position_or_len is_point (ds ++ 46 ∷ rest) ≡ length ds
point_at [] rest digits = refl
point_at (d ∷ ds) rest digits =
    let parts = and_parts (is_ascii_digit d) (list_all is_ascii_digit ds) digits in
    rw (no_point_digit d parts.0) (omega (arith, point_at ds rest parts.1))

-- a text with a point has one
has_point : (ds rest : List ℕ) → list_any is_point (ds ++ 46 ∷ rest) ≡ true
has_point ds rest = grind (arith, nat_tests, common_steps)

-- a text without a sign writes n units of the last of some places
pub record Writes (places : ℕ) (text : List ℕ) (n : ℕ) : Type 0 where
  pub whole : List ℕ
  pub part : List ℕ
  pub parts : text ≡ whole ++ part_text part
  pub some_digit : 1 ≤ length whole
  pub digits : list_all is_ascii_digit (whole ++ part) ≡ true
  pub few : length part ≤ places
  pub value : n ≡ digits_value 10 whole * 10 ^ places + digits_value 10 part * 10 ^ (places - length part)

-- a whole part and a part after the point write n together
record AreJoined (places : ℕ) (whole part : Option ℕ) (len n : ℕ) : Type 0 where
  front : ℕ
  behind : ℕ
  whole_is : whole ≡ Some front
  part_is : part ≡ Some behind
  few : len ≤ places
  value : n ≡ front * 10 ^ places + behind * 10 ^ (places - len)

-- a number that is joined has both parts
joined-some : (places len n : ℕ) (whole part : Option ℕ) → joined places whole part len ≡ Some n
    → AreJoined places whole part len n
joined-some places len n whole part e = grind arith

-- digits after a point are written with it
part_text-some : (part : List ℕ) → 1 ≤ length part → part_text part ≡ 46 ∷ part
part_text-some part some = grind arith

-- what is mapped was there
map-some : (f : ℕ → ℕ) (o : Option ℕ) (n : ℕ) → option_map f o ≡ Some n → (m : ℕ) × (o ≡ Some m) × (n ≡ f m)
map-some f o n e = grind arith

-- a point that is there comes before the end
point_before_end : (text : List ℕ) → list_any is_point text ≡ true → position_or_len is_point text < length text
point_before_end [] e = absurd cc
point_before_end (b ∷ bytes) e = grind (arith, nat_tests, point_before_end bytes)

-- a point is the byte 46
is_46 : (b : ℕ) → is_point b ≡ true → b ≡ 46
is_46 b e = grind (arith, nat_tests)

-- what is found as a decimal number is written
pub writes-from_decimal_number : (places : ℕ) (text : List ℕ) (n : ℕ) → decimal_number places text ≡ Some n
    → Writes places text n
writes-from_decimal_number places text n e = elim (cases_Bool (list_any is_point text)) [
  | inl point ↦
      let front : List ℕ = before_first is_point text in
      let behind : List ℕ = after_first is_point text in
      let whole_and_part = rw point at e in
      let j = joined-some places (length behind) n (natural front) (natural behind) whole_and_part in
      let w = natural-some front j.front j.whole_is in
      let p = natural-some behind j.behind j.part_is in
      let low : position_or_len is_point text < length text = point_before_end text point in
      let at : get_or text (position_or_len is_point text) 0 ≡ 46 = is_46 _ (passes_at_first is_point text 0 low) in
      record {
        whole = front;
        part = behind;
        parts = split_at_first is_point text 0 low ∙ ap (λ (b : ℕ). front ++ b ∷ behind) at
            ∙ ap (λ (xs : List ℕ). front ++ xs) (sym (part_text-some behind p.0));
        some_digit = w.0;
        digits = list_all-append is_ascii_digit front behind ∙ rw (w.1, p.1);
        few = j.few;
        value = j.value ∙ rw (w.2, p.2);
      }
  | inr plain ↦
      let m = map-some (λ n. n * 10 ^ places) (natural text) n (rw plain at e) in
      let w = natural-some text m.0 m.1 in
      grind (arith, nat_tests, append-nil)
]

-- a whole part and a part after the point are read as their number
read_parts : (places : ℕ) (whole part : List ℕ) → 1 ≤ length whole → list_all is_ascii_digit whole ≡ true
    → list_all is_ascii_digit part ≡ true → length part ≤ places
    → decimal_number places (whole ++ part_text part)
    ≡ Some (digits_value 10 whole * 10 ^ places + digits_value 10 part * 10 ^ (places - length part))
read_parts places whole [] some digits more few =
    ap (decimal_number places) (append-nil whole) ∙ rw (no_point whole digits) (grind (arith, nat_tests))
read_parts places whole (d ∷ ds) some digits more few =
    rw (
      has_point whole (d ∷ ds),
      point_at whole (d ∷ ds) digits,
      take-append_seam whole (46 ∷ d ∷ ds),
      drop-append-add whole (46 ∷ d ∷ ds) 1,
    ) (grind (arith, nat_tests, natural-from))

-- what is written is found as a decimal number
pub decimal_number-from_writes : (places : ℕ) (text : List ℕ) (n : ℕ) → Writes places text n
    → decimal_number places text ≡ Some n
decimal_number-from_writes places text n w = grind (arith, nat_tests, read_parts, list_all-append)

-- a number with a sign had a magnitude
map_sign-some : (negative : Bool) (o : Option ℕ) (v : ℤ) → option_map (with_sign negative) o ≡ Some v
    → (n : ℕ) × (o ≡ Some n) × (v ≡ with_sign negative n)
map_sign-some negative o v e = grind arith

-- a text that writes n spells it with either sign
spells_by : (places : ℕ) (negative : Bool) (text : List ℕ) (n : ℕ) (v : ℤ) → Writes places text n
    → v ≡ with_sign negative n → Spells places (sign_text negative ++ text) v
spells_by places negative text n v w is = grind arith

-- any other byte isn't a minus
no_minus : (b : ℕ) → (b ≡ 45 → ⊥) → (b == 45) ≡ false
no_minus b other = grind (arith, nat_tests)

-- what is found after an optional minus is spelled
pub spells-from_signed : (places : ℕ) (text : List ℕ) (v : ℤ) → signed_by (decimal_number places) text ≡ Some v
    → Spells places text v
spells-from_signed places [] v e = absurd cc
spells-from_signed places (b ∷ bytes) v e = elim (cases_eq b 45) [
  | inl minus ↦
      let m = map_sign-some true (decimal_number places bytes) v (rw minus at e) in
      rw minus (spells_by places true bytes m.0 v (writes-from_decimal_number places bytes m.0 m.1) m.2)
  | inr plain ↦
      let m = map_sign-some false (decimal_number places (b ∷ bytes)) v (rw (no_minus b plain) at e) in
      spells_by places false (b ∷ bytes) m.0 v (writes-from_decimal_number places (b ∷ bytes) m.0 m.1) m.2
]

-- a sign and a text that writes n are read as n with that sign
signed_parts : (places : ℕ) (negative : Bool) (whole part : List ℕ) (n : ℕ)
    → Writes places (whole ++ part_text part) n → 1 ≤ length whole → list_all is_ascii_digit (whole ++ part) ≡ true
    → signed_by (decimal_number places) (sign_text negative ++ whole ++ part_text part) ≡ Some (with_sign negative n)
signed_parts places negative [] part n w some digits = absurd (omega arith)
signed_parts places negative (b ∷ bytes) part n w some digits =
    let is = decimal_number-from_writes places (b ∷ bytes ++ part_text part) n w in grind (arith, nat_tests)

-- what is spelled is found
pub signed-from_spells : (places : ℕ) (text : List ℕ) (v : ℤ) → Spells places text v
    → signed_by (decimal_number places) text ≡ Some v
signed-from_spells places text v s = grind (arith, nat_tests, signed_parts)

-- two results are one if each number that the one has is the other's
same_number : (o p : Option ℕ) → ((n : ℕ) → o ≡ Some n → p ≡ Some n) → ((n : ℕ) → p ≡ Some n → o ≡ Some n) → o ≡ p
same_number o p to from = grind arith

-- without places no digits come after a point
natural-from_writes : (text : List ℕ) (n : ℕ) (whole part : List ℕ) → text ≡ whole ++ part_text part
    → 1 ≤ length whole → list_all is_ascii_digit (whole ++ part) ≡ true → length part ≤ 0
    → n ≡ digits_value 10 whole * 10 ^ 0 + digits_value 10 part * 10 ^ (0 - length part) → natural text ≡ Some n
natural-from_writes text n whole part parts some digits few value = grind (arith, nat_tests, append-nil)

-- so the number is that of the digits
pub decimal_number-zero : (text : List ℕ) → decimal_number 0 text ≡ natural text
decimal_number-zero text = same_number (decimal_number 0 text) (natural text)
    (λ n e. let w = writes-from_decimal_number 0 text n e in
    natural-from_writes text n w.whole w.part w.parts w.some_digit w.digits w.few w.value)
    (λ n e. let w = natural-some text n e in decimal_number-from_writes 0 text n (grind (arith, nat_tests, append-nil)))

-- the same after an optional minus
pub signed_by-zero : (text : List ℕ) → signed_by (decimal_number 0) text ≡ signed_by natural text
signed_by-zero [] = refl
signed_by-zero (b ∷ bytes) = rw (decimal_number-zero bytes, decimal_number-zero (b ∷ bytes))

-- The number that digits write, up to a limit.
use Rattle.rank_query.proofs.Cited.{◌≡◌, ℕ, ◌+◌, ◌-◌, ◌*◌, ◌<◌, ◌≤◌, ◌^◌, Bool, true, false, min, List, [], ◌∷◌, length}
use Rattle.rank_query.proofs.Cited.{take, drop, get_or, Option, Some, None, Ok, Err, refl, sym, ap, ◌∙◌, arith, inl}
use Rattle.rank_query.proofs.Cited.{inr, ◌==◌, ℤ, pos, neg_ℤ, list_all, before_first, after_first, position_or_len}
use Rattle.rank_query.proofs.Cited.{option_map, is_ascii_digit, digit_value, digits_value, nat_tests}
use Rattle.rank_query.proofs.Cited.{false_from_ne_true, cases_Bool, ints, drop_all, position_or_len_is, cond_some}
use Rattle.rank_query.proofs.Cited.{IsFirstByte, is_byte, natural, joined, decimal_number, with_sign, signed_by}
use Rattle.rank_query.proofs.Cited.{OutOfLimits, is_heat, heat, tenths_in, is_point, two_numbers, both, natural_behind}
use Rattle.std.proofs.lemmas.Int.Digits.{digits_value_more}
use Rattle.rank_query.proofs.ReadingSteps.{tested_again}

-- a digit's value
pub digit_is : (c : ℕ) → is_ascii_digit c ≡ true → digit_value c ≡ c - 48
digit_is c h = grind (arith, nat_tests)

-- one more digit, if the number is kept up to a limit
pub one_more_up_to : (limit : ℕ) (digits : List ℕ) (i v : ℕ) → i < length digits
    → v ≡ min limit (digits_value 10 (take i digits)) → is_ascii_digit (get_or digits i 0) ≡ true
    → min (v * 10 + (get_or digits i 0 - 48)) limit ≡ min limit (digits_value 10 (take (i + 1) digits))
one_more_up_to limit digits i v inside e digit =
    omega (arith, digits_value_more 10 digits i inside, digit_is (get_or digits i 0) digit)

-- what is mapped was there
mapped : {A B : Type 0} (f : A → B) (o : Option A) (y : B) → option_map f o ≡ Some y → (x : A) × (o ≡ Some x)
    × (y ≡ f x)
mapped f None y e = cc
mapped f (Some x) y e = let same : f x ≡ y = cc in (x, refl, sym same)

-- one digit at most writes one to nine, and is one
one_digit : (part : List ℕ) (p : ℕ) → natural part ≡ Some p → length part ≤ 1 → (length part ≡ 1) × (p ≤ 9)
one_digit [] p e le = cc
one_digit (d ∷ []) p e le =
    let both = cond_some (list_all is_ascii_digit (d ∷ [])) (digits_value 10 (d ∷ [])) p e in
    (refl, grind (arith, nat_tests))
one_digit (d ∷ c ∷ ds) p e le = absurd (omega arith)

-- tenths that are kept up to a limit, if whole degrees and the digit after the point are
pub joined-kept : (whole part : List ℕ) (a b : ℕ) → length part ≤ 1 → option_map (min 101) (natural whole) ≡ Some a
    → option_map (min 10) (natural part) ≡ Some b
    → option_map (min 1001) (joined 1 (natural whole) (natural part) (length part)) ≡ Some (min (a * 10 + b) 1001)
joined-kept whole part a b few first second =
    let w = mapped (min 101) (natural whole) a first in
    let p = mapped (min 10) (natural part) b second in
    let one = one_digit part p.0 p.1 few in
    rw (w.1, p.1, one.0) (ap (λ (k : ℕ). Some k) (omega (arith, w.2, p.2, one.1)))

-- without a point the digit after it is 0
pub joined-zero : (o : Option ℕ) → joined 1 o (Some 0) 1 ≡ option_map (λ n. n * 10 ^ 1) o
joined-zero None = refl
joined-zero (Some w) = ap (λ (k : ℕ). Some k) (omega arith)

-- a number that is kept up to a limit past the degrees is within them as it was
record IsKept (o : Option ℤ) (t : ℤ) : Type 0 where
  it : ℤ
  is : o ≡ Some it
  within : is_heat it ≡ is_heat t
  same : is_heat t ≡ true → it ≡ t

-- so it is with a sign
sign-kept : (negative : Bool) (o : Option ℕ) (t : ℤ)
    → option_map (with_sign negative) (option_map (min 1001) o) ≡ Some t → IsKept (option_map (with_sign negative) o) t
sign-kept negative None t e = cc
sign-kept true (Some n) t e =
    record { it = neg_ℤ (pos n); is = refl; within = grind (arith, ints); same = λ is. grind (arith, ints) }
sign-kept false (Some n) t e =
    record { it = pos n; is = refl; within = grind (arith, ints); same = λ is. grind (arith, ints) }

-- and with a minus or without one
signed-kept : (word : List ℕ) (t : ℤ) → signed_by (λ ds. option_map (min 1001) (decimal_number 1 ds)) word ≡ Some t
    → IsKept (tenths_in word) t
signed-kept [] t e = cc
signed-kept (b ∷ bytes) t e = elim (cases_Bool (b == 45)) [
  | inl minus ↦ let found = rw minus at e in rw minus (sign-kept true (decimal_number 1 bytes) t found)
  | inr plain ↦ let found = rw plain at e in rw plain (sign-kept false (decimal_number 1 (b ∷ bytes)) t found)
]

-- what was kept is read as degrees if it is within their limits
pub heat-kept : (at : ℕ) (word : List ℕ) (t : ℤ)
    → signed_by (λ ds. option_map (min 1001) (decimal_number 1 ds)) word ≡ Some t → is_heat t ≡ true
    → heat (at, word) ≡ Ok t
unfolding heat
heat-kept at word t e inside =
    let kept = signed-kept word t e in
    tested_again tenths_in is_heat OutOfLimits at word t (kept.is ∙ ap (λ (z : ℤ). Some z) (kept.same inside)) inside

-- and is out of them if it isn't
pub heat-past : (at : ℕ) (word : List ℕ) (t : ℤ)
    → signed_by (λ ds. option_map (min 1001) (decimal_number 1 ds)) word ≡ Some t → is_heat t ≡ false
    → heat (at, word) ≡ Err (OutOfLimits at)
unfolding heat
heat-past at word t e outside =
    let kept = signed-kept word t e in
    cc

-- without a point there are no two numbers
pub two-whole : (word : List ℕ) → IsFirstByte (is_byte 46) word None → two_numbers word ≡ None
two-whole word nowhere =
    let at : position_or_len is_point word ≡ length word =
    position_or_len_is is_point word (length word) 0 (omega arith)
    (λ k lt. false_from_ne_true _ (nowhere k (omega arith) lt)) (λ lt. absurd (omega arith)) in
    let none : after_first is_point word ≡ [] = drop_all (position_or_len is_point word + 1) word (omega arith) in
    rw none (no_second (natural (before_first is_point word)))
  where
    no_second : (o : Option ℕ) → both o None ≡ None
    no_second None = refl
    no_second (Some a) = refl

-- the first number comes before the first point, and the second after another one
pub two-point : (word : List ℕ) (point : ℕ) → IsFirstByte (is_byte 46) word (Some point)
    → two_numbers word ≡ both (natural (take point word)) (natural_behind (drop (point + 1) word))
two-point word point first =
    let at : position_or_len is_point word ≡ point =
    position_or_len_is is_point word point 0 (omega (arith, first.0.high))
    (λ k lt. false_from_ne_true _ (first.0.before k (omega arith) lt)) (λ _. first.1) in
    cc

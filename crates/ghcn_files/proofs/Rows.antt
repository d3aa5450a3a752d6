-- A row, a day at a time.
use Rattle.std.proofs.Common.{◌≡◌, ℕ, zero, suc, ◌+◌, ◌<◌, ◌≤◌, ◌^◌, Bool, true, false, cond, List, length, get_or, set}
use Rattle.std.proofs.Common.{Option, Some, None, inl, inr, refl, sym, ap, subst, ◌∙◌, arith, ℤ, pos, replicate, min}
use Rattle.std.specs.Prelude.{◌==◌, ◌&&◌, ◌||◌, not, bit_or, neg_ℤ, int_le, nat_lt, if◌then◌else◌}
use Rattle.std.specs.Option.{option_and_then, option_map_or}
use Rattle.std.specs.Ordering.{int_eq}
use Rattle.std.specs.Int.Bits.{or_zero_r}
use Rattle.std.specs.Int.{bit_at}
use Rattle.std.proofs.Math.Pow.{pow-lt}
use Rattle.std.proofs.lemmas.Bool.{cases_lt, and_parts, eqb-false}
use Rattle.std.proofs.lemmas.Bool.Decides.{Decides-int_eq, nat_tests}
use Rattle.std.proofs.lemmas.List.{get_or-set_same, get_or-set_other, get_or_past, length-set}
use Rattle.std.proofs.lemmas.List.FromFn.{get_or-map-range_with_len}
use Rattle.std.proofs.lemmas.Nat.{or_lt}
use Rattle.std.proofs.lemmas.Nat.Bits.{bit_at_or, bit_at-lt, bit_at-zero, bit_at-pow_same, bit_at-pow_other}
use Rattle.jiff_core.specs.Calendar.{days_in_month}
use Rattle.ghcn_files.specs.declared.element.Element.{Element}
use Rattle.ghcn_files.specs.declared.month.Head.{Head}
use Rattle.ghcn_fields.specs.declared.field.Field.{Field}
use Rattle.ghcn_fields.specs.declared.field.Field.TheVariants.{Blank, Number, Bad}
use Rattle.ghcn_fields.specs.Numbers.{number_or}
use Rattle.ghcn_files.specs.Meaning.Elements.{may_be_negative}
use Rattle.ghcn_files.specs.Elements.{least_of}
use Rattle.ghcn_files.specs.StationLines.{unless_missing}
use Rattle.ghcn_files.specs.Months.{reading, value_field, is_flagged, is_readable, days_of_group, head_of, month_of}
use Rattle.ghcn_files.specs.Rows.{if_so, if_possible, value_at, no_reading, value_within, line_value, AreDays, IsRowOf}
use Rattle.ghcn_files.specs.Rows.{AreValues, value_from, if_kept}
use Rattle.ghcn_files.proofs.Ranges.{reading-right}

-- a word and values have what the first i of some days have
pub record HasFirst (day : ℕ → Option ℤ) (i w : ℕ) (vs : List ℤ) : Type 0 where
  pub fits : w < 2 ^ i
  pub long : length vs ≡ 32
  pub holds : (j : ℕ) → j < i → value_at w vs j ≡ day j
  pub later : (j : ℕ) → i ≤ j → bit_at w j ≡ 0
  pub zeros : (j : ℕ) → j < i → bit_at w j ≡ 0 → get_or vs j (pos 0) ≡ pos 0

-- a place whose bit isn't set has no value
absent_value : (w : ℕ) (vs : List ℤ) (j : ℕ) → bit_at w j ≡ 0 → value_at w vs j ≡ None
absent_value w vs j e = ap (λ (b : ℕ). if_so (b == 1) (get_or vs j (pos 0))) e

module _ (day : ℕ → Option ℤ) (i w : ℕ) (vs : List ℤ) (is : HasFirst day i w vs) (lt : i < 32) where
  -- what is at an earlier place stays
  before-stays : (v : ℤ) (j : ℕ) → j < i → get_or (set vs i v) j (pos 0) ≡ get_or vs j (pos 0)
  before-stays v j before = get_or-set_other vs i j v (pos 0) (omega (arith, before))

  -- and the new value is at its own
  stands-here : (v : ℤ) → get_or (set vs i v) i (pos 0) ≡ v
  stands-here v = get_or-set_same vs i v (pos 0) (omega (arith, lt, is.long))

  -- a day that doesn't count has a 0
  first-passed : day i ≡ None → HasFirst day (i + 1) w (set vs i (pos 0))
  first-passed none = record {
    fits = let more = pow-lt {i = i} {j = i + 1} (omega arith) in omega (arith, is.fits, more);
    long = length-set vs i (pos 0) ∙ is.long;
    holds = λ j less. elim (cases_lt j i) [
      | inl before ↦
          ap (if_so (bit_at w j == 1)) (before-stays (pos 0) j before) ∙ is.holds j before
      | inr here ↦
          let same : i ≡ j = omega arith in
          absent_value w (set vs i (pos 0)) j (is.later j (omega arith)) ∙ sym none ∙ ap day same
    ];
    later = λ j le. is.later j (omega (arith, le));
    zeros = λ j less none. elim (cases_lt j i) [
      | inl before ↦ before-stays (pos 0) j before ∙ is.zeros j before none
      | inr here ↦
          let same : i ≡ j = omega arith in
          subst (λ (k : ℕ). get_or (set vs i (pos 0)) k (pos 0) ≡ pos 0) same (stands-here (pos 0))
    ];
  }

  -- a further bit changes none of the others
  bit-other : (j : ℕ) → (j ≡ i → ⊥) → bit_at (bit_or w (2 ^ i)) j ≡ bit_at w j
  bit-other j ne = omega (arith, bit_at_or w (2 ^ i) j, bit_at-pow_other i j ne, bit_at-lt w j)

  -- and is set
  bit-here : bit_at (bit_or w (2 ^ i)) i ≡ 1
  bit-here = omega (arith, bit_at_or w (2 ^ i) i, bit_at-pow_same i, bit_at-lt w i)

  -- a day that counts is set
  first-set : (v : ℤ) → day i ≡ Some v → HasFirst day (i + 1) (bit_or w (2 ^ i)) (set vs i v)
  first-set v some = record {
    fits =
        let more = pow-lt {i = i} {j = i + 1} (omega arith) in
        or_lt (i + 1) w (2 ^ i) (omega (arith, is.fits, more)) more;
    long = length-set vs i v ∙ is.long;
    holds = λ j less. elim (cases_lt j i) [
      | inl before ↦
          ap (λ (b : ℕ). if_so (b == 1) (get_or (set vs i v) j (pos 0))) (bit-other j (λ e. omega (arith, before, e)))
          ∙ ap (if_so (bit_at w j == 1)) (before-stays v j before)
          ∙ is.holds j before
      | inr here ↦
          let same : i ≡ j = omega arith in
          subst (λ (k : ℕ). value_at (bit_or w (2 ^ i)) (set vs i v) k ≡ day k) same
          (ap (λ (b : ℕ). if_so (b == 1) (get_or (set vs i v) i (pos 0))) bit-here
          ∙ ap Some (stands-here v) ∙ sym some)
    ];
    later = λ j le. bit-other j (λ e. omega (arith, le, e)) ∙ is.later j (omega (arith, le));
    zeros = λ j less none. elim (cases_lt j i) [
      | inl before ↦
          let ne : j ≡ i → ⊥ = λ e. omega (arith, before, e) in
          before-stays v j before ∙ is.zeros j before (sym (bit-other j ne) ∙ none)
      | inr here ↦
          let same : i ≡ j = omega arith in
          let set_here = bit-here in
          absurd (omega (arith, set_here, none, ap (bit_at (bit_or w (2 ^ i))) same))
    ];
  }

-- a day is set if it counts, and otherwise cleared
pub first-step : (day : ℕ → Option ℤ) (i k w : ℕ) (vs : List ℤ) (t : Bool) (v : ℤ) → HasFirst day i w vs
    → day i ≡ if_so t v → i < 32 → i ≡ k
    → HasFirst day (i + 1) (bit_or w (if t then 2 ^ i else 0)) (set vs k (if t then v else pos 0))
first-step day i k w vs true v is some lt same =
    subst (λ (p : ℕ). HasFirst day (i + 1) (bit_or w (2 ^ i)) (set vs p v)) same (first-set day i w vs is lt v some)
first-step day i k w vs false v is none lt same =
    subst (λ (p : ℕ). HasFirst day (i + 1) (bit_or w 0) (set vs p (pos 0))) same
    (subst (λ (u : ℕ). HasFirst day (i + 1) u (set vs i (pos 0))) (sym (or_zero_r w))
    (first-passed day i w vs is lt none))

-- zeros have 0 at each place
zero_at : (n j : ℕ) → get_or (replicate n (pos 0)) j (pos 0) ≡ pos 0
zero_at zero j = refl
zero_at (suc n) zero = refl
zero_at (suc n) (suc j) = zero_at n j

-- no day yet
pub first-none : (day : ℕ → Option ℤ) (vs : List ℤ) → length vs ≡ 32 → HasFirst day 0 0 vs
first-none day vs long = record {
  fits = omega arith;
  long = long;
  holds = λ j lt. absurd (omega arith);
  later = λ j le. bit_at-zero j;
  zeros = λ j lt. absurd (omega arith);
}

-- no day is kept
pub no-days : AreDays (λ j. None) 0 (replicate 32 (pos 0))
no-days = record {
  fits = omega arith;
  holds = λ j lt. absent_value 0 (replicate 32 (pos 0)) j (bit_at-zero j);
  zeros = λ j none. zero_at 32 j;
}

-- a bit that has a value is set
set_bit : (t : Bool) (v : ℤ) → if_so t v ≡ None → t ≡ false
set_bit true v e = absurd cc
set_bit false v e = refl

-- all days are those of a row, if the place after them has none
pub all-are : (day some : ℕ → Option ℤ) (i w : ℕ) (vs : List ℤ) → i ≡ 32 → some 31 ≡ None
    → ((j : ℕ) → j < 31 → some j ≡ day j) → HasFirst some i w vs → AreDays day w vs
all-are day some i w vs e none same is =
    let all : HasFirst some 32 w vs = subst (λ (k : ℕ). HasFirst some k w vs) e is in
    let unset : (bit_at w 31 == 1) ≡ false =
    set_bit (bit_at w 31 == 1) (get_or vs 31 (pos 0)) (all.holds 31 (omega arith) ∙ none) in
    let clear : bit_at w 31 ≡ 1 → ⊥ = eqb-false (bit_at w 31) 1 unset in
    record {
      fits = let below = all.fits in omega (arith, bit_at-lt w 31, clear);
      holds = λ j lt. all.holds j (omega (arith, lt)) ∙ same j lt;
      zeros = λ j none. elim (cases_lt j 32) [
        | inl inside ↦ all.zeros j inside none
        | inr past ↦ get_or_past vs j (pos 0) (omega (arith, past, all.long))
      ];
    }

-- the row of a line is that of its month
pub line-row : (kept : Bool) (element : Element) (line : List ℕ) (head : Head) (count w : ℕ) (vs : List ℤ)
    → head ≡ head_of line
    → count ≡ days_in_month (pos head.year) head.month
    → AreDays (λ j. if_kept kept (line_value element count line j)) w vs
    → IsRowOf kept (month_of element line) (record {
      id = head.id;
      element = element;
      year = head.year;
      month = head.month;
      word = w;
      values = vs;
    })
unfolding days_of_group
line-row kept element line head count w vs is many days = record {
  id = ap (λ (h : Head). h.id) is;
  element = refl;
  year = ap (λ (h : Head). h.year) is;
  month = ap (λ (h : Head). h.month) is;
  days = record {
    fits = days.fits;
    holds = λ j lt.
        let same : count ≡ days_in_month (pos (head_of line).year) (head_of line).month =
        many ∙ ap (λ (h : Head). days_in_month (pos h.year) h.month) is in
        days.holds j lt
        ∙ ap (if_kept kept) (ap (value_within count element j)
        (sym (get_or-map-range_with_len (reading line) 1 31 j (j + 1) no_reading lt (omega arith)))
        ∙ ap (λ (n : ℕ). value_within n element j (get_or (month_of element line).days j no_reading)) same);
    zeros = days.zeros;
  };
}

-- what stands for a missing value is below the least of each element
below_least : (e : Element) → if_so (int_le (least_of e) (neg_ℤ (pos 9999))) (neg_ℤ (pos 9999)) ≡ None
below_least e = by_sign (may_be_negative e)
  where
    by_sign : (negative : Bool)
        → if_so (int_le (cond negative (neg_ℤ (pos 9998)) (pos 0)) (neg_ℤ (pos 9999))) (neg_ℤ (pos 9999)) ≡ None
    by_sign true = refl
    by_sign false = refl

-- a value of a line that isn't below the least of its element is one that counts
from_least : (e : Element) (z : ℤ) (missing : Bool) → int_eq z (neg_ℤ (pos 9999)) ≡ missing
    → option_map_or is_readable (cond missing None (Some z)) true ≡ true
    → if_so (int_le (least_of e) z) z ≡ option_and_then (if_possible e) (cond missing None (Some z))
from_least e z true same fine =
    let is : z ≡ neg_ℤ (pos 9999) = (Decides-int_eq z (neg_ℤ (pos 9999))).0 same in
    ap (λ (x : ℤ). if_so (int_le (least_of e) x) x) is ∙ below_least e
from_least e z false same fine = by_sign (may_be_negative e)
  where
    by_sign : (negative : Bool) → if_so (int_le (cond negative (neg_ℤ (pos 9998)) (pos 0)) z) z
        ≡ if_so (negative || int_le (pos 0) z) z
    by_sign true = ap (λ (t : Bool). if_so t z) (and_parts _ _ fine).0
    by_sign false = refl

-- nothing and another fact isn't so
and_false : (t : Bool) → (t && false) ≡ false
and_false true = refl
and_false false = refl

-- of a day that a month has, the value decides
within_month : (e : Element) (value : ℤ)
    → if_so (int_le (least_of e) value && true) value ≡ if_so (int_le (least_of e) value) value
within_month e value = by (int_le (least_of e) value)
  where
    by : (t : Bool) → if_so (t && true) value ≡ if_so t value
    by true = refl
    by false = refl

-- a value that stands for a missing one doesn't count
none_there : (e : Element) (value : ℤ) → value ≡ neg_ℤ (pos 9999)
    → if_so (int_le (least_of e) value && true) value ≡ None
none_there e value is =
    within_month e value ∙ ap (λ (x : ℤ). if_so (int_le (least_of e) x) x) is ∙ below_least e

-- so is the field of a day that counts, and no other
by_parts : (e : Element) (within flagged : Bool) (f : Field) (value : ℤ)
    → option_map_or is_readable (unless_missing f) true ≡ true
    → value ≡ cond (not flagged) (number_or (neg_ℤ (pos 9999)) f) (neg_ℤ (pos 9999))
    → if_so (int_le (least_of e) value && within) value
    ≡ cond within (cond flagged None (option_and_then (if_possible e) (unless_missing f))) None
by_parts e false flagged f value fine is = ap (λ (t : Bool). if_so t value) (and_false (int_le (least_of e) value))
by_parts e true true f value fine is = none_there e value is
by_parts e true false Blank value fine is = none_there e value is
by_parts e true false Bad value fine is = none_there e value is
by_parts e true false (Number z) value fine is =
    within_month e value ∙ ap (λ (x : ℤ). if_so (int_le (least_of e) x) x) is
    ∙ from_least e z (int_eq z (neg_ℤ (pos 9999))) refl fine

-- the values of a line from the least on are those that count
pub line-days : (e : Element) (count : ℕ) (line : List ℕ) (raw : List ℤ) (w : ℕ) (vs : List ℤ)
    → AreValues line raw → AreDays (value_from (least_of e) count raw) w vs → AreDays (line_value e count line) w vs
line-days e count line raw w vs are days = record {
  fits = days.fits;
  holds = λ j lt. days.holds j lt
      ∙ by_parts e (nat_lt j count) (is_flagged line (j + 1)) (value_field line (j + 1)) (get_or raw j (pos 0))
      (reading-right line (j + 1)) (are j lt);
  zeros = days.zeros;
}

-- the days of a month are those of its first 31 places
days_within : (j count days : ℕ) → days ≡ min count 31 → j < 31 → nat_lt j days ≡ nat_lt j count
days_within j count days e lt = grind (arith, nat_tests)

-- a place that no month has, has no value
pub no_32nd : (least : ℤ) (days : ℕ) (raw : List ℤ) → days ≤ 31 → value_from least days raw 31 ≡ None
no_32nd least days raw few =
    let value : ℤ = get_or raw 31 (pos 0) in
    let past : nat_lt 31 days ≡ false = grind (arith, nat_tests) in
    ap (λ (t : Bool). if_so (int_le least value && t) value) past
    ∙ ap (λ (t : Bool). if_so t value) (and_false (int_le least value))

-- the values at the places of a month's days are those at its first 31 places
pub within_31 : (least : ℤ) (count days : ℕ) (raw : List ℤ) → days ≡ min count 31 → (j : ℕ) → j < 31
    → value_from least days raw j ≡ value_from least count raw j
within_31 least count days raw e j lt =
    ap (λ (t : Bool). if_so (int_le least (get_or raw j (pos 0)) && t) (get_or raw j (pos 0)))
    (days_within j count days e lt)

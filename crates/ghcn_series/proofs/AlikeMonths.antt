-- Lines that are alike are read as the same month, or refused for the same reason.
use Rattle.ghcn_series.proofs.Cited.{◌≡◌, ℕ, zero, suc, ◌+◌, ◌*◌, ◌<◌, ◌≤◌, Bool, cond, not, List, length, map, take}
use Rattle.ghcn_series.proofs.Cited.{Option, None, Some, Result, Err, refl, sym, ap, ap₂, ◌∙◌, arith, nat_lt, nat_le}
use Rattle.ghcn_series.proofs.Cited.{pos, unsigned_abs, range_with_len, nat_tests, is_blank, columns, int_field}
use Rattle.ghcn_series.proofs.Cited.{Element, LineWhy, Short, Month, Reading, element_of, is_id, is_number_within}
use Rattle.ghcn_series.proofs.Cited.{number_of, reading, days_of_group, month_why, month_of, month_if, read_month}
use Rattle.ghcn_series.proofs.Cited.{unless, AreAlike}
use Rattle.ghcn_files.proofs.Months.{why_by}
use Rattle.ghcn_files.proofs.Readings.{all_days}
use Rattle.ghcn_files.proofs.WholeLines.{SaysSame, same-reading, same-why}
use Rattle.ghcn_series.proofs.AlikeLines.{by_columns, same_columns, same_code}

-- two functions that agree on some numbers one after another
map_agrees : (f g : ℕ → Reading) (a n : ℕ) → ((j : ℕ) → a ≤ j → j < a + n → f j ≡ g j)
    → map f (range_with_len a n) ≡ map g (range_with_len a n)
map_agrees f g a zero same = refl
map_agrees f g a (suc n) same =
    rw (same a (omega arith) (omega arith), map_agrees f g (a + 1) n (λ j low high. same j (omega arith) (omega arith)))

-- the days of lines that are alike say the same
days_say : (a b : List ℕ) → take 269 a ≡ take 269 b → SaysSame a b
days_say a b same = record {
  value = λ j low high. same_columns (14 + 8 * j) (18 + 8 * j) a b (omega arith) same;
  flag = λ j low high. ap (λ (bytes : List ℕ). not (is_blank bytes))
      (same_columns (20 + 8 * j) (20 + 8 * j) a b (omega arith) same);
}

-- lines that are alike have the same ID, year and month
same_head : (a b : List ℕ) → AreAlike a b
    → (columns 1 11 a ≡ columns 1 11 b) × (columns 12 15 a ≡ columns 12 15 b) × (columns 16 17 a ≡ columns 16 17 b)
same_head a b is = (
  same_columns 1 11 a b (omega arith) is.columns,
  same_columns 12 15 a b (omega arith) is.columns,
  same_columns 16 17 a b (omega arith) is.columns,
)

-- they fail the same test first
same_why : (a b : List ℕ) → AreAlike a b → month_why a ≡ month_why b
same_why a b is = let head = same_head a b is in
    let long : nat_le 266 (length a) ≡ nat_le 266 (length b) =
    by_columns (λ (l : List ℕ). nat_le 266 (length l)) a b is.columns (λ long_a long_b. grind (arith, nat_tests)) in
    λ i. why_by (long i) (is.behind i) (is_id (head.0 i)) (is_number_within (pos 1) (pos 9999) (int_field (head.1 i)))
    (is_number_within (pos 1) (pos 12) (int_field (head.2 i))) (same-why a b (days_say a b is.columns) i)

-- they are the same month
same_month_of : (e : Element) (a b : List ℕ) → AreAlike a b → month_of e a ≡ month_of e b
same_month_of e a b is = let head = same_head a b is in
    let days : map (reading a) days_of_group ≡ map (reading b) days_of_group =
    sym (all_days a 31 refl) ∙ map_agrees (reading a) (reading b) 1 31 (λ j low high.
    same-reading a b (days_say a b is.columns) j low (omega (arith, high))) ∙ all_days b 31 refl in
    λ i. record {
      id = record { 0 = head.0 i };
      element = e;
      year = unsigned_abs (number_of (int_field (head.1 i)));
      month = unsigned_abs (number_of (int_field (head.2 i)));
      days = days i;
    }

-- the month of an element, or what is refused, is the same
same_if : (e : Option Element) (a b : List ℕ) → AreAlike a b → month_if e a ≡ month_if e b
same_if None a b is = refl
same_if (Some e) a b is =
    ap₂ (λ (why : Option LineWhy) (m : Month). unless why (Some m)) (same_why a b is) (same_month_of e a b is)

-- lines that are alike are read as the same month, or refused for the same reason
pub same_read : (a b : List ℕ) → AreAlike a b → read_month a ≡ read_month b
same_read a b is =
    let short : nat_lt (length a) 21 ≡ nat_lt (length b) 21 =
    by_columns (λ (l : List ℕ). nat_lt (length l) 21) a b is.columns (λ long_a long_b. grind (arith, nat_tests)) in
    ap₂ (λ (t : Bool) (r : Result (Option Month) LineWhy). cond t (Err Short) r) short
    (ap (λ (code : List ℕ). month_if (element_of code) a) (same_code a b is)
    ∙ same_if (element_of (columns 18 21 b)) a b is)

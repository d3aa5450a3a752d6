-- Days one after another in one month, and the days of the year 2000 that they stand for.
use Rattle.rank_query.proofs.Cited.{◌≡◌, ℕ, ◌+◌, ◌-◌, ◌≤◌, true, ◌&&◌, Some, ap, ◌∙◌, arith, ℤ, pos, ◌+ℤ◌, ◌-ℤ◌, ◌≤ℤ◌}
use Rattle.rank_query.proofs.Cited.{unsigned_abs, and_parts, nat_tests, ints, cond_some, days_from_civil, days_in_month}
use Rattle.rank_query.proofs.Cited.{civil, is_within, day_number, sym}
use Rattle.rank_query.specs.Meaning.Admits.{in_2000}
use Rattle.jiff_core.proofs.SignedLemmas.{signed_arith}
use Rattle.jiff_core.proofs.CalendarLemmas.{days_from_civil-day_count, day_count-day_of_year}
use Rattle.ghcn_fields.specs.Days.{is_date}
use Rattle.ghcn_fields.proofs.WholeDays.{day_number-law}

-- a day of a month that the calendar has
pub record IsPlaced (y m d : ℕ) (n : ℤ) : Type 0 where
  pub low : 1 ≤ d
  pub high : d ≤ days_in_month (pos y) m
  pub year : y ≤ 9999
  pub before : (is_within 1 9999 y && is_within 1 12 m) ≡ true
  pub number : days_from_civil (pos y) m d ≡ n

-- so is each day with a number
pub placed : (y m d : ℕ) (n : ℤ) → day_number y m d ≡ Some n → IsPlaced y m d n
placed y m d n e =
    let both = cond_some (is_date y m d) (days_from_civil (pos y) m d) n e in
    let parts = and_parts (is_within 1 9999 y && is_within 1 12 m) (is_within 1 (days_in_month (pos y) m) d) both.0 in
    record {
      low = grind (arith, nat_tests);
      high = grind (arith, nat_tests);
      year = grind (arith, nat_tests);
      before = parts.0;
      number = both.1;
    }

-- a place in a month that the month has
within_month : (y m d : ℕ) → 1 ≤ d → d ≤ days_in_month (pos y) m → is_within 1 (days_in_month (pos y) m) d ≡ true
within_month y m d low high = grind (arith, nat_tests)

-- days of a month, counted from one of them
days_on : (y m d i : ℕ) → 1 ≤ d → days_from_civil (pos y) m (d + i) ≡ days_from_civil (pos y) m d +ℤ pos i
days_on y m d i low =
    let one = days_from_civil-day_count (pos y) m d in
    let two = days_from_civil-day_count (pos y) m (d + i) in
    let first = day_count-day_of_year (pos y) m d low in
    let second = day_count-day_of_year (pos y) m (d + i) (omega (arith, low)) in
    omega (arith, signed_arith, one, two, first, second)

-- that many days later in the month
later : (y m d i : ℕ) (n : ℤ) → IsPlaced y m d n → d + i ≤ days_in_month (pos y) m → day_number y m (d + i) ≡ Some
    (n +ℤ pos i)
later y m d i n is within =
    let number = days_on y m d i is.low ∙ ap (λ (z : ℤ). z +ℤ pos i) is.number in
    let date : is_date y m (d + i) ≡ true =
    ap (λ b. b && is_within 1 (days_in_month (pos y) m) (d + i)) is.before
    ∙ within_month y m (d + i) (omega (arith, is.low)) within in
    cc

-- the days up to the month's last one are in that month, one place later each
pub later_date : (y m d : ℕ) (n e : ℤ) → day_number y m d ≡ Some n → n ≤ℤ e
    → e ≤ℤ (n +ℤ pos (days_in_month (pos y) m - d)) → ◌≡◌ {A = ℕ × ℕ × ℕ} (civil e) (y, m, d + unsigned_abs (e -ℤ n))
later_date y m d n e is from to =
    let here = placed y m d n is in
    let i : ℕ = unsigned_abs (e -ℤ n) in
    let at : n +ℤ pos i ≡ e = grind (arith, ints) in
    let within : d + i ≤ days_in_month (pos y) m = omega (arith, ints, at, to, here.high) in
    ((day_number-law y m (d + i) e).0 (later y m d i n here within ∙ ap (λ (z : ℤ). Some z) at)).1

-- so their month is the same
pub same_month : (y m d : ℕ) (n e : ℤ) → day_number y m d ≡ Some n → n ≤ℤ e
    → e ≤ℤ (n +ℤ pos (days_in_month (pos y) m - d)) → (civil e).1 ≡ m
same_month y m d n e is from to = ap (λ (c : ℕ × ℕ × ℕ). c.1) (later_date y m d n e is from to)

-- days of a month one after another stand for such days of the year 2000
pub later_2000 : (y m d : ℕ) (n e : ℤ) → day_number y m d ≡ Some n → n ≤ℤ e
    → e ≤ℤ (n +ℤ pos (days_in_month (pos y) m - d)) → in_2000 e ≡ in_2000 n +ℤ (e -ℤ n)
later_2000 y m d n e is from to =
    let here = placed y m d n is in
    let i : ℕ = unsigned_abs (e -ℤ n) in
    let start : civil n ≡ (y, m, d) = ((day_number-law y m d n).0 is).1 in
    let end = later_date y m d n e is from to in
    let at : pos i ≡ e -ℤ n = grind (arith, ints) in
    ap (λ (c : ℕ × ℕ × ℕ). days_from_civil (pos 2000) c.1 c.2) end ∙ days_on 2000 m d i here.low
    ∙ ap (λ (z : ℤ). days_from_civil (pos 2000) m d +ℤ z) at
    ∙ ap (λ (c : ℕ × ℕ × ℕ). days_from_civil (pos 2000) c.1 c.2 +ℤ (e -ℤ n)) (sym start)

-- no month is longer than in the year 2000
longest : (y m : ℕ) → days_in_month (pos y) m ≤ days_in_month (pos 2000) m
longest y m = grind (arith, nat_tests)

-- so each day stands for one
pub stands_for : (y m d : ℕ) (n : ℤ) → day_number y m d ≡ Some n
    → day_number 2000 m d ≡ Some (days_from_civil (pos 2000) m d)
stands_for y m d n is =
    let here = placed y m d n is in
    let longer = longest y m in
    let month = and_parts (is_within 1 9999 y) (is_within 1 12 m) here.before in
    grind (arith, nat_tests)

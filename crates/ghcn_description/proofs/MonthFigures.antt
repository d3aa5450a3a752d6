-- A month's usable days, by its row's word and as facts of lines.
use Rattle.std.proofs.Common.{◌≡◌, ℕ, zero, suc, ◌+◌, ◌-◌, ◌<◌, ◌≤◌, ◌^◌, ◌/◌, ◌%◌, Bool, true, false, cond, not, List}
use Rattle.std.proofs.Common.{[], ◌∷◌, ◌++◌, length, map, get_or, Option, Some, None, inl, inr, refl, sym, ap, subst}
use Rattle.std.proofs.Common.{◌∙◌, arith, ℤ, pos, ◌+ℤ◌, ◌≤ℤ◌, ◌⊎◌, w32}
use Rattle.std.specs.Prelude.{◌==◌, int_lt}
use Rattle.std.specs.Int.{bit_at, trailing_zeros, int_min, int_max}
use Rattle.std.specs.Int.RustNames.{count_ones}
use Rattle.std.specs.List.{All, Contains, cons_option, filter_map, enumerate_from}
use Rattle.std.specs.Option.{is_some, option_map}
use lib.Count.{ones_step}
use Rattle.std.proofs.lemmas.Bool.{cases_lt}
use Rattle.std.proofs.lemmas.Int.{ints}
use Rattle.std.proofs.lemmas.Option.{same_Some}
use Rattle.std.proofs.lemmas.List.{length-map}
use Rattle.std.proofs.lemmas.Nat.Bits.{bit_at-suc, bit_at_lowest, bit_at-zero, same_from_bits, bit_at-lt, bit_at_above}
use Rattle.std.proofs.lemmas.Nat.Bits.{bit_at-trailing_zeros}
use Rattle.std.proofs.lemmas.List.Elements.{All-append, All-cons, All-nil, Contains-append_left, Contains-append_right}
use Rattle.jiff_core.specs.Calendar.{days_from_civil}
use Rattle.jiff_core.proofs.CalendarLemmas.{days_in_month_bounds}
use Rattle.ghcn_fields.specs.Days.{day_number, day_if}
use Rattle.ghcn_files.specs.declared.month.Month.{Month}
use Rattle.ghcn_files.specs.declared.month.Reading.{Reading}
use Rattle.ghcn_files.specs.declared.row.MonthRow.{MonthRow}
use Rattle.ghcn_files.specs.Months.{IsMonth}
use Rattle.ghcn_files.specs.Rows.{no_reading, IsRowOf}
use Rattle.ghcn_series.specs.Meaning.Series.{DayValue}
use Rattle.ghcn_series.specs.Gathered.{usable_day, usable_days}
use Rattle.ghcn_series.proofs.MonthDays.{IsOfCalendar, has_number, day_number-is, day_number-after}
use Rattle.ghcn_series.proofs.DistinctDays.{is_day_of}
use Rattle.ghcn_series.proofs.MonthRows.{usable_is, unread}
use Rattle.ghcn_description.specs.declared.counts.Span.{Span}
use Rattle.ghcn_description.specs.Described.{IsSpan}
use Rattle.std.proofs.lemmas.Nat.{zero_from_ones}
use Rattle.std.proofs.lemmas.Bool.Decides.{nat_tests, Decides-eqb}
use Rattle.ghcn_description.specs.Steps.{days_of_month, has_day}

-- ---- the bits of a word

-- no month has a day past its 31st
past-none : (m : Month) (k : ℕ) (r : Reading) → 31 ≤ k → usable_day m (k + 1, r) ≡ None
past-none m k r past =
    elim (usable_day m (k + 1, r)) as (λ o. usable_day m (k + 1, r) ≡ o → o ≡ None) [
      | None ↦ λ is. refl
      | Some x ↦ λ is.
          let has = has_number m.year m.month (k + 1) x.0 (is_day_of m (k + 1) r x is) in
          absurd (omega (arith, past, has.0.day, days_in_month_bounds (pos m.year) m.month))
    ] refl

-- from a place on, a word's bits say which days of a month are usable
abbrev Marks : Month → List Reading → ℕ → ℕ → Type 0
Marks m rs s w = (j : ℕ) → is_some (usable_day m (s + j, get_or rs j no_reading)) ≡ (bit_at w j == 1)

-- those of a month's row do
row-marks : (m : Month) (row : MonthRow) → IsMonth m → IsRowOf true m row → Marks m m.days 1 row.word
row-marks m row right of j =
    let r : Reading = get_or m.days j no_reading in
    let place : j + 1 ≡ 1 + j = omega arith in
    subst (λ k. is_some (usable_day m (k, r)) ≡ (bit_at row.word j == 1)) place (elim (cases_lt j 31) [
      | inl lt ↦
          sym (valued (bit_at row.word j == 1) _ (usable_day m (j + 1, r))
          (of.days.holds j lt ∙ sym (usable_is m j right)))
      | inr past ↦
          let small : row.word < 2 ^ 31 = of.days.fits in
          rw (past-none m j r past, bit_at_above row.word 31 j small past) refl
    ])
  where
    valued : (b : Bool) (v : ℤ) (o : Option DayValue) → cond b (Some v) None ≡ option_map (λ (x : DayValue). x.1) o
        → b ≡ is_some o
    valued true v None e = absurd cc
    valued true v (Some x) e = refl
    valued false v None e = refl
    valued false v (Some x) e = absurd cc

-- a bit that isn't set is nothing
bit-unset : (b : ℕ) → b < 2 → (b == 1) ≡ false → b ≡ 0
bit-unset b lt e = grind (arith, nat_tests)

-- one that is set is one
bit-set : (b : ℕ) → (b == 1) ≡ true → b ≡ 1
bit-set b e = (Decides-eqb b 1).0 e

-- if no reading is left, no bit is set
none-left : (m : Month) (s w : ℕ) → Marks m [] s w → w ≡ 0
none-left m s w marks = same_from_bits w 0 (λ j. bit-unset (bit_at w j) (bit_at-lt w j)
    (sym (marks j) ∙ ap is_some (unread m (s + j))) ∙ sym (bit_at-zero j))

-- of the bits after the first, the next readings have theirs
marks-behind : (m : Month) (r : Reading) (rs : List Reading) (s w : ℕ) → Marks m (r ∷ rs) s w
    → Marks m rs (s + 1) (w / 2)
marks-behind m r rs s w marks j =
    let place : s + suc j ≡ (s + 1) + j = omega arith in
    subst (λ k. is_some (usable_day m (k, get_or rs j no_reading)) ≡ (bit_at (w / 2) j == 1)) place
    (marks (suc j) ∙ ap (λ b. b == 1) (bit_at-suc w j))

-- the first bit says whether the first day is usable
first-mark : (m : Month) (r : Reading) (rs : List Reading) (s w : ℕ) → Marks m (r ∷ rs) s w
    → is_some (usable_day m (s, r)) ≡ (w % 2 == 1)
first-mark m r rs s w marks =
    let place : s + 0 ≡ s = omega arith in
    subst (λ k. is_some (usable_day m (k, r)) ≡ (w % 2 == 1)) place (marks 0 ∙ ap (λ b. b == 1) (bit_at_lowest w))

-- nothing has no ones
no-ones : count_ones 0 ≡ 0
unfolding count_ones
no-ones = refl

-- a word has as many ones as days are usable
ones-are : (m : Month) (rs : List Reading) (s w : ℕ) → Marks m rs s w
    → length (filter_map (usable_day m) (enumerate_from s rs)) ≡ count_ones w
ones-are m [] s w marks = rw (none-left m s w marks) (sym no-ones)
ones-are m (r ∷ rs) s w marks =
    let rest : List DayValue = filter_map (usable_day m) (enumerate_from (s + 1) rs) in
    let more : length rest ≡ count_ones (w / 2) = ones-are m rs (s + 1) (w / 2) (marks-behind m r rs s w marks) in
    first (usable_day m (s, r)) (w % 2) rest (omega arith) (first-mark m r rs s w marks)
    ∙ ap (λ n. w % 2 + n) more ∙ sym (ones_step w)
  where
    first : (o : Option DayValue) (b : ℕ) (rest : List DayValue) → b < 2 → is_some o ≡ (b == 1)
        → length (cons_option o rest) ≡ b + length rest
    first None b rest lt e = let none = bit-unset b lt (sym e) in omega (arith, none)
    first (Some x) b rest lt e = let one = bit-set b (sym e) in omega (arith, one)

-- the ones of a row's word are the usable days of its month
pub ones-of_row : (m : Month) (row : MonthRow) → IsMonth m → IsRowOf true m row
    → count_ones row.word ≡ length (days_of_month m)
ones-of_row m row right of =
    sym (length-map (usable_days m) (λ (x : DayValue). x.0) ∙ ones-are m m.days 1 row.word (row-marks m row right of))

-- ---- the first and the last day

-- of two days of a month, the one at the later place is as many days later as their places are apart, and is in the
-- calendar
day-behind : (y m j k : ℕ) (x z : ℤ) → j ≤ k → day_number y m (j + 1) ≡ Some x → day_number y m (k + 1) ≡ Some z
    → (z ≡ x +ℤ pos (k - j)) × (day_if (x +ℤ pos (k - j)) ≡ Some z)
day-behind y m j k x z le at_x at_z =
    let later = has_number y m (k + 1) z at_z in
    let sooner = has_number y m (j + 1) x at_x in
    let one : IsOfCalendar y m 1 =
    record { year = later.0.year; month = later.0.month; day = (omega arith, omega (arith, later.0.day)) } in
    let first : ℤ = days_from_civil (pos y) m 1 in
    let begins : day_number y m 1 ≡ Some first = day_number-is y m 1 one in
    let from_x = day_number-after y m j first begins (omega (arith, sooner.0.day)) in
    let from_z = day_number-after y m k first begins (omega (arith, later.0.day)) in
    let is_x : x ≡ first +ℤ pos j = same_Some x (first +ℤ pos j) (sym at_x ∙ from_x.0) in
    let is_z : z ≡ first +ℤ pos k = same_Some z (first +ℤ pos k) (sym at_z ∙ from_z.0) in
    let behind : z ≡ x +ℤ pos (k - j) = omega (arith, ints, le, is_x, is_z) in (
      behind,
      ap day_if (sym behind ∙ is_z) ∙ from_z.1 ∙ ap (λ (d : ℤ). Some d) (sym is_z),
    )

-- of two days of a month, the one at the earlier place isn't later
in-order : (y m j k : ℕ) (x z : ℤ) → j ≤ k → day_number y m (j + 1) ≡ Some x → day_number y m (k + 1) ≡ Some z → x ≤ℤ z
in-order y m j k x z le at_x at_z =
    let behind = day-behind y m j k x z le at_x at_z in omega (arith, ints, behind.0)

-- the usable days of a month from a place on, of these readings
abbrev days_from : Month → ℕ → List Reading → List ℤ
days_from m s rs = map (λ (x : DayValue). x.0) (filter_map (usable_day m) (enumerate_from s rs))

-- a usable day at a place is one of them
day-in : (m : Month) (rs : List Reading) (s j : ℕ) (x : DayValue)
    → usable_day m (s + j, get_or rs j no_reading) ≡ Some x → Contains (days_from m s rs) x.0
day-in m [] s j x is = absurd (let none = unread m (s + j) in cc)
day-in m (r ∷ rs) s zero x is =
    let place : s + 0 ≡ s = omega arith in
    let here = subst (λ k. usable_day m (k, r) ≡ Some x) place is in
    rw here (0, omega arith, refl)
day-in m (r ∷ rs) s (suc j) x is =
    let place : s + suc j ≡ (s + 1) + j = omega arith in
    later (usable_day m (s, r)) (day-in m rs (s + 1) j x
    (subst (λ k. usable_day m (k, get_or rs j no_reading) ≡ Some x) place is))
  where
    later : (o : Option DayValue) → Contains (days_from m (s + 1) rs) x.0
        → Contains (map (λ (y : DayValue). y.0)
        (cons_option o (filter_map (usable_day m) (enumerate_from (s + 1) rs)))) x.0
    later None there = there
    later (Some y) there = Contains-append_right (y.0 ∷ []) (days_from m (s + 1) rs) x.0 there

-- what is true of the usable day at each place is true of all
days-all : (P : ℤ → Type 0) (m : Month) (rs : List Reading) (s : ℕ)
    → ((j : ℕ) (x : DayValue) → usable_day m (s + j, get_or rs j no_reading) ≡ Some x → P x.0)
    → All P (days_from m s rs)
days-all P m [] s each = All-nil P
days-all P m (r ∷ rs) s each =
    go (usable_day m (s, r)) refl
    (days-all P m rs (s + 1)
    (λ j x is.
    let place : (s + 1) + j ≡ s + suc j = omega arith in
    each (suc j) x (subst (λ k. usable_day m (k, get_or rs j no_reading) ≡ Some x) place is)))
  where
    go : (o : Option DayValue) → usable_day m (s, r) ≡ o → All P (days_from m (s + 1) rs)
        → All P (map (λ (y : DayValue). y.0) (cons_option o (filter_map (usable_day m) (enumerate_from (s + 1) rs))))
    go None is all = all
    go (Some y) is all =
        let place : s ≡ s + 0 = omega arith in
        All-cons P y.0 (days_from m (s + 1) rs) (each 0 y (subst (λ k. usable_day m (k, r) ≡ Some y) place is)) all

-- a usable day has its number
day-at : (m : Month) (row : MonthRow) (j : ℕ) (x : DayValue) → IsRowOf true m row
    → usable_day m (1 + j, get_or m.days j no_reading) ≡ Some x → day_number row.year row.month (j + 1) ≡ Some x.0
day-at m row j x of is =
    let place : 1 + j ≡ j + 1 = omega arith in
    let there = is_day_of m (1 + j) (get_or m.days j no_reading) x is in
    rw (of.year, of.month) (subst (λ k. day_number m.year m.month k ≡ Some x.0) place there)

-- the day of a bit is usable
marked : (m : Month) (row : MonthRow) (j : ℕ) → IsMonth m → IsRowOf true m row → bit_at row.word j ≡ 1
    → (x : DayValue) × (usable_day m (1 + j, get_or m.days j no_reading) ≡ Some x)
    × (day_number row.year row.month (j + 1) ≡ Some x.0)
marked m row j right of set =
    go (usable_day m (1 + j, get_or m.days j no_reading)) refl (row-marks m row right of j)
  where
    go : (o : Option DayValue) → usable_day m (1 + j, get_or m.days j no_reading) ≡ o
        → is_some o ≡ (bit_at row.word j == 1) → (x : DayValue)
        × (usable_day m (1 + j, get_or m.days j no_reading) ≡ Some x)
        × (day_number row.year row.month (j + 1) ≡ Some x.0)
    go None is e = absurd (let bad = rw set at e in cc)
    go (Some x) is e = (x, is, day-at m row j x of is)

-- so it is one of the usable days
marked-in : (m : Month) (row : MonthRow) (j : ℕ) (d : ℤ) → IsMonth m → IsRowOf true m row → bit_at row.word j ≡ 1
    → day_number row.year row.month (j + 1) ≡ Some d → Contains (days_of_month m) d
marked-in m row j d right of set at =
    let day = marked m row j right of set in
    subst (Contains (days_of_month m)) (same_Some day.0.0 d (sym day.2 ∙ at)) (day-in m m.days 1 j day.0 day.1)

-- the days of the lowest and of the highest bit are the first and the last usable day
pub row-span : (m : Month) (row : MonthRow) (low high : ℕ) (span : Span) → IsMonth m → IsRowOf true m row
    → bit_at row.word low ≡ 1 → ((i : ℕ) → i < low → bit_at row.word i ≡ 0) → bit_at row.word high ≡ 1
    → ((i : ℕ) → high < i → bit_at row.word i ≡ 0) → day_number row.year row.month (low + 1) ≡ Some span.first
    → day_number row.year row.month (high + 1) ≡ Some span.last → IsSpan (days_of_month m) (Some span)
row-span m row low high span right of low_set below high_set above at_first at_last = (
  marked-in m row low span.first right of low_set at_first,
  marked-in m row high span.last right of high_set at_last,
  days-all (λ d. (span.first ≤ℤ d) × (d ≤ℤ span.last)) m m.days 1 within,
)
  where
    within : (j : ℕ) (x : DayValue) → usable_day m (1 + j, get_or m.days j no_reading) ≡ Some x
        → (span.first ≤ℤ x.0) × (x.0 ≤ℤ span.last)
    within j x there =
        let at = day-at m row j x of there in
        let set = bit-set (bit_at row.word j) (sym (row-marks m row right of j) ∙ ap is_some there) in (
          in-order row.year row.month low j span.first x.0 (not_below set (cases_lt j low)) at_first at,
          in-order row.year row.month j high x.0 span.last (not_above set (cases_lt high j)) at at_last,
        )
      where
        -- no day comes before the first
        not_below : bit_at row.word j ≡ 1 → (j < low) ⊎ (low ≤ j) → low ≤ j
        not_below set (inl lt) = absurd (let clear = below j lt in omega (arith, set, clear))
        not_below set (inr le) = le

        -- and none after the last
        not_above : bit_at row.word j ≡ 1 → (high < j) ⊎ (j ≤ high) → j ≤ high
        not_above set (inl lt) = absurd (let clear = above j lt in omega (arith, set, clear))
        not_above set (inr le) = le

-- and it is in the calendar
pub marked-day : (m : Month) (row : MonthRow) (j : ℕ) → IsMonth m → IsRowOf true m row → bit_at row.word j ≡ 1
    → day_number row.year row.month (j + 1) ≡ None → ⊥
marked-day m row j right of set none = let day = marked m row j right of set in cc (day.2, none)

-- the day of a bit is as far after that of a lower one as their places are apart
pub marked-behind : (m : Month) (row : MonthRow) (low high : ℕ) (first : ℤ) → IsMonth m → IsRowOf true m row
    → low ≤ high → bit_at row.word high ≡ 1 → day_number row.year row.month (low + 1) ≡ Some first
    → day_if (first +ℤ pos (high - low)) ≡ day_number row.year row.month (high + 1)
marked-behind m row low high first right of le set at =
    let last = marked m row high right of set in
    (day-behind row.year row.month low high first last.0.0 le at last.2).1 ∙ sym last.2

-- a word without bits is that of a month without a usable day
pub none-usable : (m : Month) (row : MonthRow) → IsMonth m → IsRowOf true m row → row.word ≡ 0 → days_of_month m ≡ []
none-usable m row right of zero_word =
    no-days (days_of_month m) (sym (ones-of_row m row right of) ∙ ap count_ones zero_word ∙ no-ones)
  where
    no-days : (ds : List ℤ) → length ds ≡ 0 → ds ≡ []
    no-days [] e = refl
    no-days (d ∷ ds) e = absurd cc

-- a word with a bit isn't nothing
some-bits : (w t : ℕ) → bit_at w t ≡ 1 → 0 < w
some-bits zero t set = absurd (let clear = bit_at-zero t in omega (arith, set, clear))
some-bits (suc w) t set = omega arith

-- the lowest bit of a row's word
pub lowest-bit : (m : Month) (row : MonthRow) (t : ℕ) → IsRowOf true m row → bit_at row.word t ≡ 1
    → (bit_at row.word (trailing_zeros w32 row.word) ≡ 1)
    × ((i : ℕ) → i < trailing_zeros w32 row.word → bit_at row.word i ≡ 0)
lowest-bit m row t of set =
    let fits : row.word < 2 ^ 31 = of.days.fits in
    let low = bit_at-trailing_zeros w32 row.word (some-bits row.word t set) (omega (arith, fits)) in
    (low.1, low.2)

-- it isn't after another one
pub lowest-le : (w low high : ℕ) → ((i : ℕ) → i < low → bit_at w i ≡ 0) → bit_at w high ≡ 1 → low ≤ high
lowest-le w low high below set = elim (cases_lt high low) [
  | inl lt ↦ absurd (let clear = below high lt in omega (arith, set, clear))
  | inr le ↦ le
]

-- ---- the days of both

-- of two days that are there, one or the other is
one-in : (t : Bool) (x y : ℤ) (days : List ℤ) → Contains days x → Contains days y → Contains days (cond t x y)
one-in true x y days here there = here
one-in false x y days here there = there

-- the earlier of two days is no later than either
min-le : (x y : ℤ) → (int_min x y ≤ℤ x) × (int_min x y ≤ℤ y)
min-le x y = (grind (arith, ints), grind (arith, ints))

-- the later of two days is no earlier than either
max-ge : (x y : ℤ) → (x ≤ℤ int_max x y) × (y ≤ℤ int_max x y)
max-ge x y = (grind (arith, ints), grind (arith, ints))

-- the first and the last of the days of both
pub joined-span : (days more : List ℤ) (a b : Span) → IsSpan days (Some a) → IsSpan more (Some b)
    → IsSpan (days ++ more) (Some (record { first = int_min a.first b.first; last = int_max a.last b.last }))
joined-span days more a b here there =
    let first : ℤ = int_min a.first b.first in
    let last : ℤ = int_max a.last b.last in
    let low = min-le a.first b.first in
    let high = max-ge a.last b.last in (
      one-in (int_lt b.first a.first) b.first a.first (days ++ more) (Contains-append_right days more b.first there.0)
          (Contains-append_left days more a.first here.0),
      one-in (int_lt b.last a.last) a.last b.last (days ++ more) (Contains-append_left days more a.last here.1)
          (Contains-append_right days more b.last there.1),
      All-append (λ d. (first ≤ℤ d) × (d ≤ℤ last)) days more
          (λ k d lt. let is = here.2 k d lt in (omega (arith, ints, is, low), omega (arith, ints, is, high)))
          (λ k d lt. let is = there.2 k d lt in (omega (arith, ints, is, low), omega (arith, ints, is, high))),
    )

-- two numbers that are nothing together
zero-together : (w n : ℕ) → (w ≡ 0 → n ≡ 0) → (n ≡ 0 → w ≡ 0) → not (w == 0) ≡ not (n == 0)
zero-together zero zero f g = refl
zero-together zero (suc n) f g = absurd (let bad = f refl in cc)
zero-together (suc w) zero f g = absurd (let bad = g refl in cc)
zero-together (suc w) (suc n) f g = grind (arith, nat_tests)

-- a row's word has a bit if its month has a usable day
pub word-has_day : (m : Month) (row : MonthRow) → IsMonth m → IsRowOf true m row → not (row.word == 0) ≡ has_day m
word-has_day m row right of =
    let ones = ones-of_row m row right of in
    zero-together row.word (length (days_of_month m)) (λ e. ap length (none-usable m row right of e))
    (λ e. zero_from_ones row.word (ones ∙ e))

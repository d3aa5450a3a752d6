-- Days of the year 2000, which stand for those of every year, and their texts.
use Rattle.rank_query.proofs.Cited.{◌≡◌, ℕ, true, false, ◌&&◌, List, [], ◌∷◌, ◌++◌, length, take, drop, codes, Option}
use Rattle.rank_query.proofs.Cited.{Some, None, Ok, refl, sym, ap, ◌∙◌, subst, inl, inr, arith, ℤ, pos, cases_Bool}
use Rattle.rank_query.proofs.Cited.{cond, and_parts, ints, civil, read_date, date_text, is_day, same_bytes}
use Rattle.rank_query.proofs.Cited.{bytes_decides, last_digits, digits_value, both, day_of_2000, two_days, dates}
use Rattle.rank_query.proofs.Cited.{dates_text, is_day_of_2000, BadDate, Word, or_fault, get_or, says, ◌-◌}
use Rattle.rank_query.proofs.Cited.{common_steps, day_count, days_from_civil, days_of_years, days_of_months}
use Rattle.std.specs.Option.{option_zip}
use Rattle.std.specs.Prelude.{IfSome}
use Rattle.std.specs.List.{slice_range}
use Rattle.jiff_core.specs.Calendar.{IsCivilDate}
use Rattle.jiff_core.proofs.SignedLemmas.{signed_arith}
use Rattle.jiff_core.proofs.CalendarLemmas.{days_from_civil-day_count, day_count-day_of_year, day_count-year_is}
use Rattle.jiff_core.proofs.CalendarLemmas.{day_of_year_bound}
use Rattle.ghcn_fields.specs.Meaning.Dates.{date_bytes}
use Rattle.ghcn_fields.proofs.CivilDates.{civil-date_of}
use Rattle.ghcn_fields.proofs.DateDigits.{value_of_four}
use Rattle.ghcn_fields.proofs.DateTexts.{read_date-law}
use Rattle.rank_query.proofs.ReadingSteps.{or_fault_ok}
use Rattle.rank_query.proofs.WordValues.{both-some}
use Rattle.rank_query.proofs.RegionWords.{and_true}

-- the count of 2000-01-01
count_2000 : day_count (pos 2000) 1 1 ≡ 4_382_910
unfolding day_count days_of_years days_of_months
count_2000 = refl

-- a date of the year 2000 is one of its days
pub date_2000 : (m d : ℕ) → IsCivilDate (pos 2000) m d → is_day_of_2000 (days_from_civil (pos 2000) m d) ≡ true
date_2000 m d date =
    let count = days_from_civil-day_count (pos 2000) m d in
    let place = day_count-day_of_year (pos 2000) m d date.2.0 in
    let few = day_of_year_bound (pos 2000) m d date in
    grind (arith, ints, signed_arith, count_2000)

-- a day of 2000 is a day
pub day-2000 : (day : ℤ) → is_day_of_2000 day ≡ true → is_day day ≡ true
day-2000 day is = grind (arith, ints)

-- and its year is 2000
pub year-2000 : (day : ℤ) → is_day_of_2000 day ≡ true → (civil day).0 ≡ 2000
year-2000 day is =
    let found = civil-date_of day (day-2000 day is) in
    let c : ℕ × ℕ × ℕ = civil day in
    let count = days_from_civil-day_count (pos c.0) c.1 c.2 in
    let same = day_count-year_is (pos 2000) (pos c.0) c.1 c.2 (omega (arith, signed_arith), omega (arith, signed_arith))
    found.date (grind (arith, ints, signed_arith, count_2000)) (grind (arith, ints, signed_arith, count_2000)) in
    cc

-- a day of that year is one of these
pub of_2000 : (day : ℤ) → is_day day ≡ true → (civil day).0 ≡ 2000 → is_day_of_2000 day ≡ true
of_2000 day is year =
    let found = civil-date_of day is in
    let c : ℕ × ℕ × ℕ = civil day in
    let date : IsCivilDate (pos 2000) c.1 c.2 = subst (λ (y : ℕ). IsCivilDate (pos y) c.1 c.2) year found.date in
    let number : days_from_civil (pos 2000) c.1 c.2 ≡ day =
    subst (λ (y : ℕ). days_from_civil (pos y) c.1 c.2 ≡ day) year found.number in
    subst (λ (z : ℤ). is_day_of_2000 z ≡ true) number (date_2000 c.1 c.2 date)

-- its date begins by the year
date-2000 : (day : ℤ) → is_day_of_2000 day ≡ true → codes "2000-" ++ drop 5 (date_text day) ≡ date_text day
date-2000 day is =
    subst (λ (y : ℕ). codes "2000-" ++ drop 5 (date_bytes (y, (civil day).1, (civil day).2))
    ≡ date_bytes (y, (civil day).1, (civil day).2)) (sym (year-2000 day is)) refl

-- what is read as a day of 2000 is one, and is its date without the year
pub read_2000 : (text : List ℕ) (day : ℤ) → day_of_2000 text ≡ Some day
    → (is_day_of_2000 day ≡ true) × (text ≡ drop 5 (date_text day))
read_2000 text day e =
    let written = (read_date-law (codes "2000-" ++ text) day).0 e in
    let found = civil-date_of day written.0 in
    let four : codes "2000" ≡ last_digits 4 (civil day).0 = ap (λ (bytes : List ℕ). take 4 bytes) written.1 in
    let year : 2000 ≡ (civil day).0 = ap (digits_value 10) four
    ∙ value_of_four (civil day).0 (omega (arith, signed_arith, found.date.0.1)) in
    (of_2000 day written.0 (sym year), ap (λ (bytes : List ℕ). drop 5 bytes) written.1)

-- and that date is read as the day
written_2000 : (day : ℤ) → is_day_of_2000 day ≡ true → day_of_2000 (drop 5 (date_text day)) ≡ Some day
written_2000 day is =
    ap read_date (date-2000 day is) ∙ (read_date-law (date_text day) day).1 (day-2000 day is, refl)

-- a word with two bytes from the sixth on is what comes before them, they, and what comes after them
around : (word : List ℕ) → length (slice_range word 5 7) ≡ 2
    → take 5 word ++ (slice_range word 5 7 ++ drop 7 word) ≡ word
around (a ∷ b ∷ c ∷ d ∷ e ∷ f ∷ g ∷ rest) two = refl
around word two = absurd (omega (arith, two))

-- two days that a word is read as are days of 2000, and the word is their dates
two_written : (word : List ℕ) (s : ℤ × ℤ) → two_days word ≡ Some s
    → ((is_day_of_2000 s.0 && is_day_of_2000 s.1) ≡ true) × (word ≡ dates_text s.0 s.1)
two_written word s e = elim (cases_Bool (same_bytes (slice_range word 5 7) (codes ".."))) [
  | inl points ↦
      let found = rw points at e in
      let dots : slice_range word 5 7 ≡ codes ".." = (bytes_decides (slice_range word 5 7) (codes "..")).0 points in
      let days = both-some (day_of_2000 (take 5 word)) (day_of_2000 (drop 7 word)) s found in
      let first = read_2000 (take 5 word) s.0 days.0 in
      let last = read_2000 (drop 7 word) s.1 days.1 in (
        and_true (is_day_of_2000 s.0) (is_day_of_2000 s.1) first.0 last.0,
        sym (around word (ap length dots)) ∙ ap (λ (t : List ℕ). t ++ (slice_range word 5 7 ++ drop 7 word)) first.1
            ∙ ap (λ (t : List ℕ). drop 5 (date_text s.0) ++ (t ++ drop 7 word)) dots
            ∙ ap (λ (t : List ℕ). drop 5 (date_text s.0) ++ (codes ".." ++ t)) last.1,
      )
  | inr none ↦ let found = rw none at e in absurd cc
]

-- the dates of two days of 2000 are read as these
two_read : (a b : ℤ) → (is_day_of_2000 a && is_day_of_2000 b) ≡ true → two_days (dates_text a b) ≡ Some (a, b)
two_read a b is =
    let each = and_parts (is_day_of_2000 a) (is_day_of_2000 b) is in
    ap (λ o. both o (day_of_2000 (drop 5 (date_text b)))) (written_2000 a each.0)
    ∙ ap (both (Some a)) (written_2000 b each.1)

-- a word of another length than twelve bytes isn't two days
pub other_length : (word : List ℕ) → (length word ≡ 12 → ⊥) → two_days word ≡ None
other_length word other = by_value (two_days word) refl where
  by_value : (o : Option (ℤ × ℤ)) → two_days word ≡ o → o ≡ None
  by_value None e = refl
  by_value (Some s) e = absurd (other (ap length (two_written word s e).1))

-- without two points after five bytes it isn't two days either
pub no_points : (word : List ℕ) → says (codes "..") (slice_range word 5 7) ≡ false → two_days word ≡ None
unfolding says
no_points word e = ap (λ b. cond b (both (day_of_2000 (take 5 word)) (day_of_2000 (drop 7 word))) None) e

-- two values that there are, by the standard library's word
zip-both : {A : Type 0} (o p : Option A) → option_zip o p ≡ both o p
zip-both None p = refl
zip-both (Some x) None = refl
zip-both (Some x) (Some y) = refl

-- with them it is the days on both sides
pub points : (word : List ℕ) → says (codes "..") (slice_range word 5 7) ≡ true
    → option_zip (day_of_2000 (take 5 word)) (day_of_2000 (take (length word - 7) (drop 7 word))) ≡ two_days word
unfolding says
points word e =
    let rest : take (length word - 7) (drop 7 word) ≡ drop 7 word = grind (arith, common_steps) in
    zip-both (day_of_2000 (take 5 word)) (day_of_2000 (take (length word - 7) (drop 7 word)))
    ∙ ap (λ (t : List ℕ). both (day_of_2000 (take 5 word)) (day_of_2000 t)) rest
    ∙ sym (ap (λ b. cond b (both (day_of_2000 (take 5 word)) (day_of_2000 (drop 7 word))) None) e)

-- five bytes one by one
pub five : (text : List ℕ) → length text ≡ 5
    → get_or text 0 0 ∷ get_or text 1 0 ∷ get_or text 2 0 ∷ get_or text 3 0 ∷ get_or text 4 0 ∷ [] ≡ text
five (a ∷ b ∷ c ∷ d ∷ e ∷ []) len = refl
five text len = absurd (omega (arith, len))

-- if a day of 2000 is read it is one
pub if_2000 : (text : List ℕ) (o : Option ℤ) → o ≡ day_of_2000 text → IfSome o (λ day. is_day_of_2000 day ≡ true)
if_2000 text None e = tt
if_2000 text (Some day) e = (read_2000 text day (sym e)).0

-- so it is with the word of a season
pub dates_read : (w : Word) (s : ℤ × ℤ) → dates w ≡ Ok s
    → ((is_day_of_2000 s.0 && is_day_of_2000 s.1) ≡ true) × (w.1 ≡ dates_text s.0 s.1)
unfolding dates
dates_read w s e = two_written w.1 s (or_fault_ok (BadDate w.0) (two_days w.1) s e)

-- the word is their dates
pub dates_written : (w : Word) (s : ℤ × ℤ) → dates w ≡ Ok s → w.1 ≡ dates_text s.0 s.1
dates_written w s e = (dates_read w s e).1

-- and the dates are read as them
pub written_dates : (at : ℕ) (a b : ℤ) → (is_day_of_2000 a && is_day_of_2000 b) ≡ true
    → dates (at, dates_text a b) ≡ Ok (a, b)
unfolding dates
written_dates at a b is = ap (or_fault (BadDate at)) (two_read a b is)

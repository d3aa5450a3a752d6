-- Dates as texts: what is written is read, and what is read was written.
use Rattle.std.proofs.Common.{◌≡◌, ◌↔◌, ℕ, ◌<◌, Bool, true, List, [], ◌∷◌, length, take, drop, get_or, Option}
use Rattle.std.proofs.Common.{Some, None, sym, ap, ◌∙◌, inl, inr, arith, ℤ, pos}
use Rattle.std.specs.Prelude.{IsTrue, if◌then◌else◌}
use Rattle.std.specs.Char.{is_ascii_digit}
use Rattle.std.specs.List.{list_all, slice_range}
use Rattle.std.specs.Str.Parse.{digits_value}
use Rattle.std.specs.Cmp.Lexicographic.{same_text}
use Rattle.std.proofs.lemmas.Bool.{cases_Bool}
use Rattle.std.proofs.lemmas.Bool.Decides.{nat_tests}
use Rattle.jiff_core.proofs.SignedLemmas.{signed_arith}
use Rattle.jiff_core.proofs.CalendarLemmas.{days_in_month_bounds}
use Rattle.ghcn_fields.specs.Meaning.Bytes.{same_bytes}
use Rattle.ghcn_fields.specs.Numbers.{natural}
use Rattle.ghcn_fields.specs.Meaning.Days.{is_day}
use Rattle.ghcn_fields.specs.Days.{day_number}
use Rattle.ghcn_fields.specs.Meaning.Dates.{civil, date_bytes, date_text}
use Rattle.ghcn_fields.specs.Dates.{read_date}
use Rattle.ghcn_fields.proofs.Digits.{natural-some}
use Rattle.ghcn_fields.proofs.CivilDates.{civil-is, civil-date_of}
use Rattle.ghcn_fields.proofs.DayNumbers.{is_day-date}
use Rattle.ghcn_fields.proofs.WholeDays.{day_number-civil, day_number-some, is_date-to_civil}
use Rattle.ghcn_fields.proofs.DateDigits.{value_of_two, value_of_four, two_again, four_again}

-- what is read if the bytes are the text of this year, month and day
abbrev read_as : List ℕ → ℕ → ℕ → ℕ → Option ℤ
read_as bytes y m d = if same_bytes (date_bytes (y, m, d)) bytes then day_number y m d else None

-- bytes that are the text of what they hold are read as that
read_as-same : (bytes : List ℕ) (y m d : ℕ) → date_bytes (y, m, d) ≡ bytes → read_as bytes y m d ≡ day_number y m d
read_as-same bytes y m d is = grind (arith, nat_tests)

-- a text that is written as a date is read as one
read_written : (y m d : ℕ) → y < 10000 → m < 100 → d < 100 → read_date (date_bytes (y, m, d)) ≡ day_number y m d
read_written y m d year month day = grind (arith, nat_tests, read_as-same, value_of_two, value_of_four)

-- digits in the places of a date are read as their numbers
read_digits : (a b c e f g h i : ℕ) → list_all is_ascii_digit (a ∷ b ∷ c ∷ e ∷ []) ≡ true
    → list_all is_ascii_digit (f ∷ g ∷ []) ≡ true → list_all is_ascii_digit (h ∷ i ∷ []) ≡ true
    → read_date (a ∷ b ∷ c ∷ e ∷ 45 ∷ f ∷ g ∷ 45 ∷ h ∷ i ∷ [])
    ≡ day_number (digits_value 10 (a ∷ b ∷ c ∷ e ∷ [])) (digits_value 10 (f ∷ g ∷ []))
    (digits_value 10 (h ∷ i ∷ []))
read_digits a b c e f g h i year month day = grind (arith, nat_tests, read_as-same, two_again, four_again)

-- the same of a text by its parts
pub read_date-parts : (bytes : List ℕ) (y m d : ℕ) → length bytes ≡ 10 → get_or bytes 4 0 ≡ 45 → get_or bytes 7 0 ≡ 45
    → natural (take 4 bytes) ≡ Some y → natural (take 2 (drop 5 bytes)) ≡ Some m → natural (drop 8 bytes) ≡ Some d
    → read_date bytes ≡ day_number y m d
read_date-parts (a ∷ b ∷ c ∷ e ∷ s ∷ f ∷ g ∷ t ∷ h ∷ i ∷ []) y m d len first second year month day =
    let ys = natural-some (a ∷ b ∷ c ∷ e ∷ []) y year in
    let ms = natural-some (f ∷ g ∷ []) m month in
    let ds = natural-some (h ∷ i ∷ []) d day in
    let dashes : ◌≡◌ {A = List ℕ} (a ∷ b ∷ c ∷ e ∷ s ∷ f ∷ g ∷ t ∷ h ∷ i ∷ [])
    (a ∷ b ∷ c ∷ e ∷ 45 ∷ f ∷ g ∷ 45 ∷ h ∷ i ∷ []) =
    ap (λ (n : ℕ). a ∷ b ∷ c ∷ e ∷ n ∷ f ∷ g ∷ t ∷ h ∷ i ∷ []) first
    ∙ ap (λ (n : ℕ). a ∷ b ∷ c ∷ e ∷ 45 ∷ f ∷ g ∷ n ∷ h ∷ i ∷ []) second in
    ap read_date dashes ∙ read_digits a b c e f g h i ys.1 ms.1 ds.1
    ∙ ap (λ (n : ℕ). day_number n (digits_value 10 (f ∷ g ∷ [])) (digits_value 10 (h ∷ i ∷ []))) (sym ys.2)
    ∙ ap (λ (n : ℕ). day_number y n (digits_value 10 (h ∷ i ∷ []))) (sym ms.2)
    ∙ ap (λ (n : ℕ). day_number y m n) (sym ds.2)
read_date-parts bytes y m d len first second year month day = absurd (omega arith)

-- a text that is the date of no year, month and day is not read
pub read_date-none : (bytes : List ℕ) → ((y m d : ℕ) → bytes ≡ date_bytes (y, m, d) → ⊥) → read_date bytes ≡ None
read_date-none bytes no_date =
    let y : ℕ = digits_value 10 (slice_range bytes 0 4) in
    let m : ℕ = digits_value 10 (slice_range bytes 5 7) in
    let d : ℕ = digits_value 10 (slice_range bytes 8 10) in
    elim (cases_Bool (same_bytes (date_bytes (y, m, d)) bytes)) [
      | inl is ↦ absurd (no_date y m d (sym (same_text _ _ (sym is))))
      | inr other ↦ ap (λ (b : Bool). if b then day_number y m d else None) other
    ]

-- what is read as a date was written for its day
read_back : (bytes : List ℕ) (y m d : ℕ) (day : ℤ) → read_as bytes y m d ≡ Some day
    → (is_day day ≡ true) × (bytes ≡ date_text day)
read_back bytes y m d day e = elim (cases_Bool (same_bytes (date_bytes (y, m, d)) bytes)) [
  | inl same ↦
      let written : date_bytes (y, m, d) ≡ bytes = same_text _ _ (sym same) in
      let number = day_number-some y m d day (sym (read_as-same bytes y m d written) ∙ e) in
      let date = is_date-to_civil y m d number.0 in (
        ap is_day (sym number.1) ∙ is_day-date (pos y) m d date.2 (omega (arith, signed_arith, date.0)),
        sym written ∙ ap date_bytes (sym (civil-is y m d date.2 date.0 date.1)) ∙ ap date_text number.1,
      )
  | inr other ↦ let none : read_as bytes y m d ≡ None =
      ap (λ (b : Bool). if b then day_number y m d else None) other in absurd cc
]

-- what is written for a day is read as it
read_text : (day : ℤ) → is_day day ≡ true → read_date (date_text day) ≡ Some day
read_text day is =
    let found = civil-date_of day is in
    let c : ℕ × ℕ × ℕ = civil day in
    let year : c.0 < 10000 = omega (arith, signed_arith, found.date.0.1) in
    let month : c.1 < 100 = omega (arith, found.date.1.1) in
    let dom : c.2 < 100 = omega (arith, found.date.2.1, days_in_month_bounds (pos c.0) c.1) in
    read_written c.0 c.1 c.2 year month dom ∙ day_number-civil day is

-- exactly what is written for a day is read
pub read_date-law : (bytes : List ℕ) (day : ℤ)
    → (read_date bytes ≡ Some day) ↔ ((is_day day ≡ true) × (bytes ≡ date_text day))
read_date-law bytes day = (
  read_back bytes (digits_value 10 (slice_range bytes 0 4)) (digits_value 10 (slice_range bytes 5 7))
      (digits_value 10 (slice_range bytes 8 10)) day,
  λ h. ap read_date h.1 ∙ read_text day h.0,
)

-- what reads as the definition does reads what is written for a day
pub written_by : (bytes : List ℕ) (found : Option ℤ) → found ≡ read_date bytes → (day : ℤ)
    → (found ≡ Some day) ↔ (IsTrue (is_day day) × (bytes ≡ date_text day))
written_by bytes found is day = rw is (read_date-law bytes day)

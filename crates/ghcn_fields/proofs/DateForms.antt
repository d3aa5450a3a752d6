-- Which texts aren't dates, by their form, and what the places of a date hold.
use Rattle.std.proofs.Common.{◌≡◌, ℕ, ◌-◌, ◌<◌, List, length, take, drop, get_or, Some, None, sym, ap, ◌∙◌, arith}
use Rattle.std.specs.Prelude.{◌≢◌, ◌^◌}
use Rattle.std.proofs.lemmas.Grind.{common_steps}
use Rattle.std.proofs.lemmas.List.{length-take-le, length-drop}
use Rattle.std.proofs.lemmas.Bool.Decides.{nat_tests}
use Rattle.ghcn_fields.specs.Numbers.{natural, up_to}
use Rattle.ghcn_fields.specs.Dates.{read_date}
use Rattle.ghcn_fields.proofs.DateDigits.{natural-lt, short_natural, four_are_some, two_are_some}
use Rattle.ghcn_fields.proofs.DateTexts.{read_date-none}

-- a text of another length isn't a date, and one without its dashes and digits isn't one either
pub other_length : (bytes : List ℕ) → length bytes ≢ 10 → read_date bytes ≡ None
other_length bytes other = read_date-none bytes (λ y m d e. absurd (other (ap length e)))

-- nor is a text without its first dash
pub no_first_dash : (bytes : List ℕ) → get_or bytes 4 0 ≢ 45 → read_date bytes ≡ None
no_first_dash bytes other = read_date-none bytes (λ y m d e. absurd (other (ap (λ (xs : List ℕ). get_or xs 4 0) e)))

-- nor one without its second
pub no_second_dash : (bytes : List ℕ) → get_or bytes 7 0 ≢ 45 → read_date bytes ≡ None
no_second_dash bytes other = read_date-none bytes (λ y m d e. absurd (other (ap (λ (xs : List ℕ). get_or xs 7 0) e)))

-- nor one whose first four bytes write no number
pub no_year : (bytes : List ℕ) → natural (take 4 bytes) ≡ None → read_date bytes ≡ None
no_year bytes none = read_date-none bytes (λ y m d e.
    four_are_some y (ap (λ (xs : List ℕ). natural (take 4 xs)) (sym e) ∙ none))

-- nor one whose bytes of the month write none
pub no_month : (bytes : List ℕ) → natural (take 2 (drop 5 bytes)) ≡ None → read_date bytes ≡ None
no_month bytes none = read_date-none bytes (λ y m d e.
    two_are_some m (ap (λ (xs : List ℕ). natural (take 2 (drop 5 xs))) (sym e) ∙ none))

-- nor one whose bytes of the day write none
pub no_day : (bytes : List ℕ) → natural (drop 8 bytes) ≡ None → read_date bytes ≡ None
no_day bytes none = read_date-none bytes (λ y m d e.
    two_are_some d (ap (λ (xs : List ℕ). natural (drop 8 xs)) (sym e) ∙ none))

-- the digits of year, month and day in a text of ten bytes
pub year_digits : (text : List ℕ) → length text ≡ 10 → up_to (2 ^ 31) (natural (take 4 text)) ≡ natural (take 4 text)
year_digits text len = short_natural (take 4 text) (omega (arith, length-take-le 4 text (omega arith)))

-- the same of the month's two bytes
pub month_digits : (text : List ℕ) → length text ≡ 10
    → up_to (2 ^ 31) (natural (take 2 (drop 5 text))) ≡ natural (take 2 (drop 5 text))
month_digits text len = grind (arith, nat_tests)

-- and of the day's two
pub day_digits : (text : List ℕ) → length text ≡ 10
    → up_to (2 ^ 31) (natural (take (length text - 8) (drop 8 text))) ≡ natural (drop 8 text)
day_digits text len = grind (arith, nat_tests, common_steps)

-- a month and a day have two digits
pub month-lt : (text : List ℕ) (n : ℕ) → length text ≡ 10 → natural (take 2 (drop 5 text)) ≡ Some n → n < 100
month-lt text n len is = grind (arith, nat_tests)

-- the day too
pub day-lt : (text : List ℕ) (n : ℕ) → length text ≡ 10 → natural (drop 8 text) ≡ Some n → n < 100
day-lt text n len is = natural-lt (drop 8 text) n 2 is (omega (arith, length-drop 8 text))

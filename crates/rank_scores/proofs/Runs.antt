-- Runs of numbers that pass, and of days of the calendar.
use Rattle.std.proofs.Common.{◌≡◌, ℕ, zero, suc, ◌<◌, ◌≤◌, Bool, true, false, List, [], ◌∷◌, Option, Some, None, refl}
use Rattle.std.proofs.Common.{ap, ◌∙◌, arith, inl, inr, ℤ, pos, ◌+ℤ◌, ◌<ℤ◌, ◌≤ℤ◌, rules}
use Rattle.std.specs.List.{AllByRecursion}
use Rattle.std.specs.Option.{option_map_or}
use Rattle.std.proofs.lemmas.Bool.{cases_Bool, cases_order, and_parts, false_from_ne_true, true_from_ne_false}
use Rattle.std.proofs.lemmas.List.Elements.{recursion_from_All, filter_passes}
use Rattle.std.proofs.lemmas.Int.{ints}
use Rattle.ghcn_fields.specs.Meaning.Days.{first_day, last_day, is_day}
use Rattle.ghcn_series.specs.Meaning.Series.{DayValue, value_on}
use Rattle.rank_query.specs.Meaning.Asked.{Query}
use Rattle.rank_scores.specs.Runs.{run_from, calendar_len}
use Rattle.rank_scores.specs.Meaning.Candidates.{is_such}
use Rattle.rank_scores.specs.Stretches.{admitted_among}
use Rattle.rank_scores.proofs.Rising.{from_each, value_on-other}

-- that many numbers from a on pass, counted up to n
pub record IsCounted (such : ℤ → Bool) (n : ℕ) (a : ℤ) (len : ℕ) : Type 0 where
  pub inside : (i : ℕ) → i < len → such (a +ℤ pos i) ≡ true
  pub stops : len < n → such (a +ℤ pos len) ≡ false

module _ (such : ℤ → Bool) where
  -- a number that passes makes the run after it longer by one
  pub run-more : (n : ℕ) (a : ℤ) → such a ≡ true → run_from such (suc n) a ≡ suc (run_from such n (a +ℤ pos 1))
  unfolding run_from
  run-more n a e = grind arith

  -- what a run is
  pub counted : (n : ℕ) (a : ℤ) → IsCounted such n a (run_from such n a)
  unfolding run_from
  counted zero a = record { inside = λ i lt. absurd (omega arith); stops = λ lt. absurd (omega arith) }
  counted (suc n) a =
      let rest = counted n (a +ℤ pos 1) in
      let len : ℕ = run_from such n (a +ℤ pos 1) in
      elim (cases_Bool (such a)) [
        | inl e ↦
            let end : a +ℤ pos (suc len) ≡ (a +ℤ pos 1) +ℤ pos len = omega (arith, ints) in
            rw (e, run_from) record {
              inside = λ i. elim i as (λ i. i < suc len → such (a +ℤ pos i) ≡ true) [
                | zero ↦ λ _. let same : a +ℤ pos 0 ≡ a = omega (arith, ints) in ap such same ∙ e
                | suc j ↦ λ lt. let same : a +ℤ pos (suc j) ≡ (a +ℤ pos 1) +ℤ pos j = omega (arith, ints) in
                    ap such same ∙ rest.inside j (omega arith)
              ];
              stops = λ lt. ap such end ∙ rest.stops (omega arith);
            }
        | inr e ↦
            let end : a +ℤ pos 0 ≡ a = omega (arith, ints) in
            rw (e, run_from) record { inside = λ i lt. absurd (omega arith); stops = λ lt. ap such end ∙ e }
      ]

  -- numbers that pass one after another, up to one that doesn't, are a run of that length
  pub run-found : (n len : ℕ) (a : ℤ) → len ≤ n → ((i : ℕ) → i < len → such (a +ℤ pos i) ≡ true)
      → such (a +ℤ pos len) ≡ false → run_from such n a ≡ len
  run-found n len a le inside ends = grind (arith, ints, counted n a, cases_order (run_from such n a) len)

-- ---- days of the kind

-- days of the calendar
abbrev pub AreDays : List DayValue → Type 0
AreDays days = AllByRecursion (λ x. is_day x.0 ≡ true) days

-- a day of the calendar lies between its first and its last one
pub day-bounds : (d : ℤ) → is_day d ≡ true → (first_day ≤ℤ d) × (d ≤ℤ last_day)
day-bounds d e = (grind (arith, ints), grind (arith, ints))

-- admitted days are days of the calendar
pub admitted-days : (q : Query) (days : List DayValue) → AreDays (admitted_among q days)
admitted-days q days = grind (arith, ints, from_each, and_parts, recursion_from_All, filter_passes)

-- a day that isn't in the calendar has no value
none_outside : (days : List DayValue) (d : ℤ) → AreDays days → is_day d ≡ false → value_on days d ≡ None
none_outside [] d h e = refl
none_outside (x ∷ xs) d h e = grind (arith, ints, value_on-other, none_outside xs d h.1 e)

-- nor has one after it
pub none_past : (days : List DayValue) (d : ℤ) → AreDays days → last_day <ℤ d → value_on days d ≡ None
none_past days d h lt = grind (arith, ints, none_outside, false_from_ne_true, day-bounds)

-- a day without a value isn't of the kind
pub such-none : (days : List DayValue) (test : ℤ → Bool) (d : ℤ) → value_on days d ≡ None
    → is_such test days d ≡ false
such-none days test d e = grind arith

-- a day that passes has a value
pub such-has : (test : ℤ → Bool) (o : Option ℤ) → option_map_or test o false ≡ true → (v : ℤ) × (o ≡ Some v)
such-has test None e = absurd cc
such-has test (Some v) e = (v, refl)

-- and is a day of the calendar
pub such-is_day : (days : List DayValue) (test : ℤ → Bool) (d : ℤ) → AreDays days → is_such test days d ≡ true
    → is_day d ≡ true
such-is_day days test d h e = grind (arith, ints, true_from_ne_false, such-none, none_outside)

-- days of the kind, one after another, are no more than the calendar has
pub days-few : (days : List DayValue) (test : ℤ → Bool) (first : ℤ) (len : ℕ) → AreDays days → 0 < len
    → ((i : ℕ) → i < len → is_such test days (first +ℤ pos i) ≡ true) → len ≤ calendar_len
days-few days test first len h some passes = search (rules, arith, day-bounds, such-is_day)

-- Days of one year, and when a year ends.
use Rattle.std.proofs.Common.{◌≡◌, ℕ, suc, ◌<◌, true, false, ◌==◌, refl, sym, ap, ◌∙◌, arith, inl, inr, ℤ, pos, ◌<ℤ◌}
use Rattle.std.proofs.Common.{◌≤ℤ◌, int_le}
use Rattle.std.proofs.lemmas.Bool.{cases_lt, eqb-true, eq-eqb, false_from_ne_true}
use Rattle.std.proofs.lemmas.Int.{ints}
use Rattle.jiff_core.specs.Calendar.{days_from_civil, IsCivilDate}
use Rattle.jiff_core.proofs.SignedLemmas.{signed_arith}
use Rattle.jiff_core.proofs.CalendarLemmas.{days_from_civil-day_count, day_count-lt_year, day_count-next_year}
use Rattle.jiff_core.proofs.CalendarLemmas.{day_count-last_of_year}
use Rattle.ghcn_fields.specs.Meaning.Dates.{civil}
use Rattle.ghcn_fields.specs.Meaning.Days.{is_day, last_day}
use Rattle.ghcn_fields.proofs.CivilDates.{civil-date_of}
use Rattle.rank_query.specs.declared.per.Per.{Per}
use Rattle.rank_query.specs.declared.per.Per.TheVariants.{Each, Station, Year}
use Rattle.rank_scores.specs.Meaning.Groups.{same_group}
use Rattle.rank_scores.specs.Leading.{group_end, last_of_year}

-- the year of a day
abbrev pub year_of : ℤ → ℕ
year_of day = (civil day).0

-- days of earlier years are earlier
pub year-order : (a b : ℤ) → is_day a ≡ true → is_day b ≡ true → year_of a < year_of b → a <ℤ b
year-order a b one two lt =
    let f = civil-date_of a one in
    let g = civil-date_of b two in
    omega (
      arith,
      signed_arith,
      f.number,
      g.number,
      days_from_civil-day_count (pos (civil a).0) (civil a).1 (civil a).2,
      days_from_civil-day_count (pos (civil b).0) (civil b).1 (civil b).2,
      day_count-lt_year (pos (civil a).0) (civil a).1 (civil a).2 (pos (civil b).0) (civil b).1 (civil b).2 f.date
          g.date.2.0 (omega (arith, signed_arith, lt)),
    )

-- a day isn't after the last one of its year
pub year-has : (y : ℕ) (b : ℤ) → is_day b ≡ true → year_of b ≡ y → b ≤ℤ days_from_civil (pos y) 12 31
year-has y b is same =
    let g = civil-date_of b is in
    omega (
      arith,
      signed_arith,
      same,
      g.number,
      days_from_civil-day_count (pos (civil b).0) (civil b).1 (civil b).2,
      days_from_civil-day_count (pos y) 12 31,
      day_count-last_of_year (pos y),
      day_count-next_year (pos y) (pos (suc y)) (omega (arith, signed_arith)) (omega (arith, signed_arith)),
      day_count-lt_year (pos (civil b).0) (civil b).1 (civil b).2 (pos (suc y)) 1 1 g.date (omega arith)
          (omega (arith, signed_arith, same)),
    )

-- and is after that of an earlier year
pub year-ended : (y : ℕ) (b : ℤ) → is_day b ≡ true → y < year_of b → IsCivilDate (pos y) 12 31
    → days_from_civil (pos y) 12 31 <ℤ b
year-ended y b is lt date =
    let g = civil-date_of b is in
    omega (
      arith,
      signed_arith,
      g.number,
      days_from_civil-day_count (pos (civil b).0) (civil b).1 (civil b).2,
      days_from_civil-day_count (pos y) 12 31,
      day_count-lt_year (pos y) 12 31 (pos (civil b).0) (civil b).1 (civil b).2 date g.date.2.0
          (omega (arith, signed_arith, lt)),
    )

-- no day is after the last one
not_past : (n : ℤ) → is_day n ≡ true → n ≤ℤ last_day
not_past n e = grind arith

-- 31 December of the year of a day is a date
pub december : (a : ℤ) → is_day a ≡ true → IsCivilDate (pos (year_of a)) 12 31
december a is = ((civil-date_of a is).date.0, (omega arith, omega arith), (omega arith, omega arith))

-- a later day is of the group of a day if and only if it isn't past the group's last one
pub group-stretch : (per : Per) (a b : ℤ) → is_day a ≡ true → is_day b ≡ true → a <ℤ b
    → int_le b (group_end per a) ≡ same_group per a b
group-stretch Each a b one two lt = grind (arith, ints)
group-stretch Station a b one two lt = let high = not_past b two in grind (arith, ints)
group-stretch Year a b one two lt = elim (cases_lt (year_of a) (year_of b)) [
  | inl less ↦
      let past = year-ended (year_of a) b two less (december a one) in
      let test : int_le b (last_of_year a) ≡ false = grind (arith, ints) in
      let other : (year_of a == year_of b) ≡ false =
      false_from_ne_true _ (λ e. let same = eqb-true _ _ e in absurd (omega (arith, same, less))) in
      test ∙ sym other
  | inr at_most ↦
      let same : year_of a ≡ year_of b = elim (cases_lt (year_of b) (year_of a)) [
        | inl back ↦ absurd (omega (arith, ints, year-order b a two one back, lt))
        | inr least ↦ omega (arith, at_most, least)
      ] in
      let within = year-has (year_of a) b two (sym same) in
      let test : int_le b (last_of_year a) ≡ true = grind (arith, ints) in
      test ∙ sym (eq-eqb _ _ same)
]

-- groups hold days both ways
pub group-turned : (per : Per) (a b : ℤ) → same_group per a b ≡ true → same_group per b a ≡ true
group-turned Each a b e = absurd cc
group-turned Station a b e = refl
group-turned Year a b e = eq-eqb _ _ (sym (eqb-true _ _ e))

-- and two days that are of the group of a third are of one
pub group-joined : (per : Per) (a b c : ℤ) → same_group per a b ≡ true → same_group per b c ≡ true
    → same_group per a c ≡ true
group-joined Each a b c first second = first
group-joined Station a b c first second = refl
group-joined Year a b c first second = eq-eqb _ _ (eqb-true _ _ first ∙ eqb-true _ _ second)

-- days of one group are of the same groups
pub group-alike : (per : Per) (a b c : ℤ) → same_group per a b ≡ true → same_group per a c ≡ same_group per b c
group-alike Each a b c e = refl
group-alike Station a b c e = refl
group-alike Year a b c e = ap (λ (y : ℕ). y == year_of c) (eqb-true _ _ e)

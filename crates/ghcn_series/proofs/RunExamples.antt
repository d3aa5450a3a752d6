-- Worked examples of runs of days, by computation.
use Rattle.ghcn_series.proofs.Cited.{◌≡◌, List, [], ◌∷◌, map, refl, arith, pos, ints, DayValue, run_count}
use Rattle.ghcn_series.proofs.Cited.{TakesToLastRun}

-- a run of two days, one of a single day, and one of three
abbrev first_days : List DayValue
first_days = (pos 0, pos 10) ∷ (pos 1, pos 20) ∷ (pos 3, pos 5) ∷ []

-- the last of them
abbrev last_days : List DayValue
last_days = (pos 29, pos 10) ∷ (pos 30, pos 10) ∷ (pos 31, pos 10) ∷ []

-- all of them
abbrev three_runs : List DayValue
three_runs = (pos 0, pos 10) ∷ (pos 1, pos 20) ∷ (pos 3, pos 5) ∷ last_days

-- two runs come before the last one
taken_two : TakesToLastRun three_runs 2 last_days
taken_two = record {
  runs = first_days;
  parts = refl;
  number = refl;
  apart = (
    (omega (arith, ints), (omega (arith, ints), (omega (arith, ints), tt))),
    (
      (omega (arith, ints), (omega (arith, ints), (omega (arith, ints), tt))),
      ((omega (arith, ints), (omega (arith, ints), (omega (arith, ints), tt))), tt),
    ),
  );
  last = λ _. refl;
  block = pos 0;
  within = (refl, (refl, (refl, tt)));
}

-- how many runs there are; the last one isn't taken too, and it isn't left with another one
run_counts : (map run_count ([] ∷ last_days ∷ first_days ∷ three_runs ∷ []) ≡ 0 ∷ 1 ∷ 2 ∷ 3 ∷ [])
    × (TakesToLastRun three_runs 3 [] → ⊥) × (TakesToLastRun three_runs 0 three_runs → ⊥)
run_counts = (
  refl,
  λ h. let none : 0 ≡ 1 = h.last (omega arith) in absurd (omega (arith, none)),
  λ h. let three : 3 ≡ 1 = h.last (omega arith) in absurd (omega (arith, three)),
)

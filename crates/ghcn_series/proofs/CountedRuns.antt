-- How many runs the days of a block have, and those before the last one.
use Rattle.ghcn_series.proofs.Cited.{◌≡◌, ℕ, zero, suc, ◌+◌, ◌-◌, ◌*◌, ◌/◌, ◌<◌, ◌≤◌, ◌^◌, List, [], ◌∷◌, length}
use Rattle.ghcn_series.proofs.Cited.{get_or, ◌≢◌, zero-add, inl, inr, refl, sym, ap, ap₂, subst, ◌∙◌, arith, w32, min}
use Rattle.ghcn_series.proofs.Cited.{ℤ, pos, ◌+ℤ◌, ◌<ℤ◌, add-zero, ◌==◌, bit_and, false, bit_at, count_ones}
use Rattle.ghcn_series.proofs.Cited.{cons_option, filter_map, range_with_len, AllByRecursion, int_eq, cases_lt}
use Rattle.ghcn_series.proofs.Cited.{Decides-int_eq, ints, pow-succ', bit_at_and, bit_at-lt, bit_at_not, bit_at_above}
use Rattle.ghcn_series.proofs.Cited.{bit_at-suc, bit_at_ones, DayValue, block_start, day_at, if_so, block_days}
use Rattle.ghcn_series.proofs.Cited.{days_from, AreInARow, run_count, TakesToLastRun}
use Rattle.std.proofs.lemmas.Nat.{leading_length, and_comm, and_le_l, and_le_r}
use lib.Count.{count_leading_zeros}
use Rattle.ghcn_series.specs.Packed.{runs_after, HasRuns, BeginsLastRun}
use Rattle.ghcn_series.proofs.LastDays.{highest-bit}
use Rattle.ghcn_series.proofs.PartDays.{both-parts, each-day, each-place, first-bit, later-bit, later-in, later-out}
use Rattle.ghcn_series.proofs.RunDays.{counted-from, row-behind, row-some}
use Rattle.ghcn_series.proofs.Nexts.{block-own}

-- ---- a day in front of others

-- the first of some days comes right after a day before them: it begins no run
run-on : (x y : DayValue) (ys : List DayValue) → y.0 ≡ x.0 +ℤ pos 1 → run_count (x ∷ y ∷ ys) ≡ run_count (y ∷ ys)
run-on x y ys next =
    rw ((Decides-int_eq y.0 (x.0 +ℤ pos 1)).1 next) (ap (λ (k : ℕ). 1 + k) (zero-add (runs_after y.0 ys)))

-- none does: there is a run more
run-more : (x : DayValue) (days : List DayValue) → AllByRecursion (λ y. (x.0 +ℤ pos 1) <ℤ y.0) days
    → run_count (x ∷ days) ≡ 1 + run_count days
run-more x [] later = refl
run-more x (y ∷ ys) later =
    let apart : int_eq y.0 (x.0 +ℤ pos 1) ≡ false = let lt = later.0 in grind (arith, ints) in rw apart refl

-- days in a row are one run
pub row-one : (first last : ℤ) (days : List DayValue) → 0 < length days → AreInARow first last days → run_count days ≡ 1
row-one first last [] some row = absurd (omega (arith, some))
row-one first last (x ∷ []) some row = refl
row-one first last (x ∷ y ∷ ys) some row =
    run-on x y ys (row.1.0 ∙ ap (λ (d : ℤ). d +ℤ pos 1) (sym row.0))
    ∙ row-one (first +ℤ pos 1) last (y ∷ ys) (omega arith) row.1

-- a day in front of others begins a run more if the next day isn't among them
run-front : (bit : ℕ) (x y : DayValue) (ys : List DayValue) → bit < 2 → y.0 ≡ x.0 +ℤ pos 1
    → AllByRecursion (λ z. (x.0 +ℤ pos 1) <ℤ z.0) ys
    → run_count (x ∷ cons_option (if_so (bit == 1) y) ys) ≡ (1 - bit) + run_count (cons_option (if_so (bit == 1) y) ys)
run-front zero x y ys less next later = run-more x ys later
run-front (suc zero) x y ys less next later = run-on x y ys next ∙ sym (zero-add (run_count (y ∷ ys)))
run-front (suc (suc b)) x y ys less next later = absurd (omega (arith, less))

-- a day that is present counts as its run does
run-cons : (bit more : ℕ) (x : DayValue) (xs : List DayValue) → bit < 2 → more ≤ 1 → run_count (x ∷ xs)
    ≡ more + run_count xs → run_count (cons_option (if_so (bit == 1) x) xs) ≡ min bit more + run_count xs
run-cons zero more x xs less few is = omega arith
run-cons (suc zero) more x xs less few is = let least : min 1 more ≡ more = omega arith in omega (arith, is, least)
run-cons (suc (suc b)) more x xs less few is = absurd (omega (arith, less))

-- ---- days at the places of a word

module _ (n : ℤ) (vs : List ℤ) (w : ℕ) where
  -- the days at some places
  abbrev at : ℕ → ℕ → List DayValue
  at s m = filter_map (day_at (n, (w, vs))) (range_with_len s m)

  -- the day of a place
  abbrev here : ℕ → DayValue
  here s = (block_start n +ℤ pos s, get_or vs s (pos 0))

  -- a day in front of those at the places after it begins a run more if the next place has none
  run-in_front : (s m : ℕ) → bit_at w (s + 1 + m) ≡ 0
      → run_count (here s ∷ at (s + 1) m) ≡ (1 - bit_at w (s + 1)) + run_count (at (s + 1) m)
  run-in_front s zero end = let none = rw (add-zero (s + 1)) at end in omega (arith, none)
  run-in_front s (suc m) end =
      run-front (bit_at w (s + 1)) (here s) (here (s + 1)) (at (s + 1 + 1) m) (bit_at-lt w (s + 1))
      (omega (arith, ints))
      (each-place (λ (d : ℤ). ((block_start n +ℤ pos s) +ℤ pos 1) <ℤ d) n vs w (s + 1 + 1) m
      (λ j more lt set. omega (arith, ints, more)))

-- the days of a word have a run for each bit that has none after it
pub runs-counted : (w : ℕ) → w < 2 ^ 32 → HasRuns w (count_ones (bit_and w (4294967295 - w / 2)))
unfolding days_from
runs-counted w fits n vs =
    let half : w / 2 < 2 ^ 32 = omega (arith, fits) in let v : ℕ = bit_and w (4294967295 - w / 2) in
    let ends : (i : ℕ) → i < 32 → min (bit_at w (0 + i)) (1 - bit_at w (0 + i + 1)) ≡ bit_at v i = λ i lt.
    let same : i ≡ 0 + i = omega arith in let next : suc i ≡ 0 + i + 1 = omega arith in
    sym (bit_at_and w (4294967295 - w / 2) i ∙ ap₂ (λ (a b : ℕ). min a b) (ap (bit_at w) same)
    (bit_at_not w32 (w / 2) i half lt ∙ ap (λ (b : ℕ). 1 - b) (sym (bit_at-suc w i) ∙ ap (bit_at w) next))) in
    counted-from (λ s m. run_count (at n vs w s m)) (λ j. min (bit_at w j) (1 - bit_at w (j + 1))) 32 (λ s. refl)
    (λ s m end. run-cons (bit_at w s) (1 - bit_at w (s + 1)) (here n vs w s) (at n vs w (s + 1) m) (bit_at-lt w s)
    (omega arith) (run-in_front n vs w s m (bit_at_above w 32 (s + 1 + m) fits (omega (arith, end)))))
    v 0 32 refl ends (omega (arith, and_le_l w (4294967295 - w / 2), fits))

-- ---- the last run

-- the place after the highest gap below the highest bit begins the last run
pub last-begins : (w t : ℕ) → w < 2 ^ 32 → 2 ^ t ≤ w → w < 2 * 2 ^ t → t < 32
    → BeginsLastRun w (32 - count_leading_zeros 32 (bit_and (2 ^ t - 1) (4294967295 - w)))
last-begins w t fits low high few = let gaps : ℕ = bit_and (2 ^ t - 1) (4294967295 - w) in
    let less : gaps < 2 ^ 32 = omega (arith, and_le_r (2 ^ t - 1) (4294967295 - w)) in
    let long = leading_length 32 gaps less in let m : ℕ = long.0 in
    let is : m ≡ 32 - count_leading_zeros 32 gaps = let sums = long.1 in omega (arith, sums) in
    let top = highest-bit w t low high in
    let gap : (j : ℕ) → j < 32 → bit_at gaps j ≡ min (bit_at (2 ^ t - 1) j) (1 - bit_at w j) = λ j lt.
    bit_at_and (2 ^ t - 1) (4294967295 - w) j
    ∙ ap (λ (b : ℕ). min (bit_at (2 ^ t - 1) j) b) (bit_at_not w32 w j fits lt) in
    let highest : (k : ℕ) → k + 1 ≡ m → bit_at gaps k ≡ 1 = λ k next.
    let more : m ≡ suc k = omega (arith, next) in
    let power : 2 ^ m ≡ 2 * 2 ^ k = ap (λ (e : ℕ). 2 ^ e) more ∙ pow-succ' 2 k in
    (highest-bit gaps k (omega (arith, power, long.3)) (omega (arith, power, long.2))).0 in
    let under : (k : ℕ) → k + 1 ≡ m → k < t = λ k next.
    first-bit (4294967295 - w) t k
    (ap (λ (g : ℕ). bit_at g k) (and_comm (4294967295 - w) (2 ^ t - 1)) ∙ highest k next) in
    let some : m ≤ t = elim (cases_lt 0 m) [
      | inl lt ↦ let lower = under (m - 1) (omega arith) in omega (arith, lower, lt)
      | inr none ↦ omega (arith, none)
    ] in
    subst (λ (s : ℕ). BeginsLastRun w s) is record {
      top = t;
      some = some;
      few = few;
      row = λ j from to. elim (cases_lt j t) [
        | inl lt ↦
            let none : bit_at gaps j ≡ 0 = bit_at_above gaps m j long.2 from in
            omega (arith, none, bit_at_ones t j lt, gap j (omega arith), bit_at-lt w j)
        | inr ge ↦ let same : t ≡ j = omega arith in ap (bit_at w) (sym same) ∙ top.0
      ];
      ends = top.1;
      begins = λ j next. let lower = under j next in omega (arith, highest j next, gap j (omega (arith, lower, few)));
    }

-- without a bit there is no run to take
pub takes-none : (days : List DayValue) → days ≡ [] → TakesToLastRun days 0 days
takes-none days none = record {
  runs = [];
  parts = refl;
  number = refl;
  apart = tt;
  last = λ some. absurd (omega (arith, ap (λ (l : List DayValue). length l) none));
  block = pos 0;
  within = tt;
}

module _ (n : ℤ) (vs : List ℤ) (w s : ℕ) (begins : BeginsLastRun w s) where
  -- the word of the runs before the last one
  abbrev before : ℕ
  before = bit_and w (2 ^ s - 1)

  -- the word of the last one
  abbrev behind : ℕ
  behind = bit_and w (2 ^ 32 - 2 ^ s)

  -- the place at which the last run begins is one of a block
  few_places : s ≤ 32
  few_places = omega (arith, begins.some, begins.few)

  -- the days that are left are in a row
  last_row : AreInARow (block_start n +ℤ pos s) (block_start n +ℤ pos (begins.top + 1 - 1))
      (block_days (n, (behind, vs)))
  last_row =
      let le = begins.some in let few = begins.few in
      row-behind n vs behind s (begins.top + 1) (omega (arith, le)) (omega (arith, few))
      (λ j lt. later-out n vs w s few_places j lt) (λ j at under.
      later-in n vs w s few_places j at (omega (arith, under, few)) ∙ begins.row j at (omega (arith, under)))
      (λ j more. omega (arith, begins.ends j (omega (arith, more)), bit_at_and w (2 ^ 32 - 2 ^ s) j))

  -- the days before the last run are taken
  pub takes-to_last : (count : ℕ) → HasRuns before count
      → TakesToLastRun (block_days (n, (w, vs))) count (block_days (n, (behind, vs)))
  takes-to_last count counted = record {
    runs = block_days (n, (before, vs));
    parts = both-parts n vs w s few_places;
    number = counted n vs;
    apart = each-day (λ (d : ℤ). AllByRecursion (λ y. (d +ℤ pos 1) <ℤ y.0) (block_days (n, (behind, vs)))) n vs before
        (λ i less set. each-day (λ (d : ℤ). ((block_start n +ℤ pos i) +ℤ pos 1) <ℤ d) n vs behind (λ j lt there.
        let other : i + 1 ≢ s = λ same. omega (arith, bit_at_and w (2 ^ s - 1) i, begins.begins i same, set) in
        omega (arith, ints, first-bit w s i set, later-bit w s j there, other)));
    last = λ some. row-one _ _ (block_days (n, (behind, vs)))
        (row-some _ _ _ (let le = begins.some in omega (arith, ints, le)) last_row) last_row;
    block = n;
    within = block-own (n, (before, vs));
  }

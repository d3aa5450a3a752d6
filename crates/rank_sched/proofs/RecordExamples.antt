-- Worked records of runs, by computation.
use Rattle.rank_sched.proofs.Cited.{◌≡◌, ℕ, zero, suc, List, [], ◌∷◌, ◌++◌, refl, Some, None, Option, true, false, Bool}
use Rattle.rank_sched.proofs.Cited.{filter, replicate, inl, inr, arith, ℤ, pos, ◌==◌, ◌≤ℤ◌, ints, All-nil, All-cons}
use Rattle.rank_sched.proofs.Cited.{All-head, All-tail, All-contains, times_below, HasEachBelow, IsAtLeast}
use Rattle.rank_sched.proofs.Cited.{IsGuessOrRaised, times_below-suc, Record, task_of, exchanges, morsels_of, SeeUpward}
use Rattle.rank_sched.proofs.Cited.{AreSoundRecords, records_by, NumbersRise}
use Rattle.rank_sched.proofs.Totals.{times-cons}
use Rattle.rank_sched.proofs.Examples.{plan, records_in, alone}

-- ---- sound records

-- a record, as it is in the code
abbrev noted : ℕ → ℕ → Option ℤ → Bool → Record
noted m w seen skipped = record { morsel = m; worker = w; seen = seen; skipped = skipped }

-- one worker's first two records over the three stations: it scans both morsels, the second after it saw 31.1 degrees
abbrev scans : List Record
scans = noted 0 0 None false ∷ noted 1 0 (Some (pos 311)) false ∷ []

-- these, and the third, which skips its morsel
abbrev all_three : List Record
all_three = scans ++ noted 2 0 (Some (pos 311)) true ∷ []

-- they are the records of the run of one worker
of_one_worker : records_in (alone 1 None) ≡ all_three
of_one_worker = refl

-- the records of a sound run of one worker over the three stations
abbrev AreOfOne : List Record → Type 0
AreOfOne rs = AreSoundRecords (task_of (plan 1)) None 1 rs

-- a worker has all of these records or none
all_or_none : (P : List Record → Type 0) (w : ℕ) → P [] → P all_three → P (records_by w all_three)
all_or_none P w none all =
    elim (0 == w) as (λ b. P (filter (λ r. b) all_three)) [
      | true ↦ all
      | false ↦ none
    ]

-- no number is below zero
none_below : (x : ℕ) → times_below x 0 ≡ 0
none_below x = grind arith

-- each of three morsels once
each_once : HasEachBelow 3 (0 ∷ 1 ∷ 2 ∷ [])
each_once x = omega (
  arith,
  times-cons x 0 (1 ∷ 2 ∷ []),
  times-cons x 1 (2 ∷ []),
  times-cons x 2 [],
  times_below-suc x 2 3 refl,
  times_below-suc x 1 2 refl,
  times_below-suc x 0 1 refl,
  none_below x,
)

-- a floor of 31.1 degrees is at least any number of scores of 31.1
reaches : (n : ℕ) → IsAtLeast (Some (pos 311)) (replicate n (pos 311))
reaches zero = All-nil (λ s. s ≤ℤ pos 311)
reaches (suc n) = All-cons (λ s. s ≤ℤ pos 311) (pos 311) (replicate n (pos 311)) (omega (arith, ints)) (reaches n)

-- a floor that was seen is the guess, of which there is none, or one of two scores that were raised
abbrev IsKnown : ℤ → Type 0
IsKnown = IsGuessOrRaised None (replicate 2 (pos 311))

-- the three records are sound
sound : AreOfOne all_three
sound =
    let raised : IsKnown (pos 311) = inr (0, omega arith, refl) in
    record {
      named = (omega arith, (omega arith, (omega arith, tt)));
      rise = λ w. all_or_none (λ l. NumbersRise (morsels_of l)) w tt
          ((omega arith, (omega arith, tt)), ((omega arith, tt), (tt, tt)));
      once = each_once;
      skips = (refl, (refl, (refl, tt)));
      upward = λ w. all_or_none (λ l. SeeUpward [] (exchanges (task_of (plan 1)) [] l)) w tt
          (All-nil (λ s. ⊥), (reaches 1, (reaches 3, tt)));
      seen = All-cons IsKnown (pos 311) (pos 311 ∷ []) raised (All-cons IsKnown (pos 311) [] raised (All-nil IsKnown));
    }

-- records aren't sound if a morsel has none, or if one names a worker that isn't there
not_all : (AreOfOne scans → ⊥) × (AreOfOne (scans ++ noted 2 1 (Some (pos 311)) true ∷ []) → ⊥)
not_all = (λ h. absurd (omega (arith, h.once 2)), λ h. absurd (omega (arith, h.named.1.1.0)))

-- nor if one skips its morsel and saw no floor, or scans it and saw a floor above its bound
not_right : (AreOfOne (scans ++ noted 2 0 None true ∷ []) → ⊥)
    × (AreOfOne (scans ++ noted 2 0 (Some (pos 311)) false ∷ []) → ⊥)
not_right = (
  λ h. let e : true ≡ false = h.skips.1.1.0 in absurd cc,
  λ h. let e : false ≡ true = h.skips.1.1.0 in absurd cc,
)

-- nor if its worker saw no floor although it had raised a score: only three workers can all scan without one
not_upward : AreOfOne (noted 0 0 None false ∷ noted 1 0 None false ∷ noted 2 0 None false ∷ []) → ⊥
not_upward h = All-head (λ s. ⊥) (pos 311) [] (h.upward 0).1.0

-- nor if a worker's morsels don't rise
not_rising : AreOfOne (noted 1 0 None false ∷ noted 0 0 (Some (pos 311)) false ∷ noted 2 0 (Some (pos 311)) true ∷ [])
    → ⊥
not_rising h = absurd (omega (arith, (h.rise 0).0.0))

-- nor if one saw a floor that is neither the guess nor a score that was raised
not_seen : AreOfOne (scans ++ noted 2 0 (Some (pos 400)) true ∷ []) → ⊥
not_seen h =
    let seen : IsKnown (pos 400) = All-head IsKnown (pos 400) [] (All-tail IsKnown (pos 311) (pos 400 ∷ []) h.seen) in
    elim seen [
      | inl is ↦ absurd cc
      | inr raised ↦
          let low : pos 400 ≤ℤ pos 311 =
          All-contains (λ s. s ≤ℤ pos 311) (replicate 2 (pos 311)) (pos 400) (reaches 2) raised in
          absurd (omega (arith, ints))
    ]

-- Hauls that have the records of a sound run are sound, under a floor, and a sound run of fewer workers is one of more.
use Rattle.rank_sched.proofs.Cited.{◌≡◌, ℕ, zero, suc, ◌+◌, ◌-◌, ◌<◌, Bool, true, false, cond, List, [], ◌∷◌, ◌++◌}
use Rattle.rank_sched.proofs.Cited.{length, filter, Option, Some, None, inl, refl, sym, ap, ◌∙◌, subst, append-nil}
use Rattle.rank_sched.proofs.Cited.{arith, ℤ, ◌≤ℤ◌, option_to_list, ◌==◌, nat_le, IsSomeAnd, All, flat_map}
use Rattle.rank_sched.proofs.Cited.{range_with_len, AllByRecursion, eqb-true, nat_tests, ints, flat_map-append}
use Rattle.rank_sched.proofs.Cited.{map-append, All-nil, one_if_equal, times, IsFloorOf, IsGuessOrRaised, times-append}
use Rattle.rank_sched.proofs.Cited.{all-filter, Record, Haul, Exchange, exchanges, morsels_of, pool_of, raised_in}
use Rattle.rank_sched.proofs.Cited.{seen_in, IsRightSkip, SeeUpward, all_records, exchanges_in, records_by, records_of}
use Rattle.rank_sched.proofs.Cited.{turns_by, turns_of, AreHaulsFrom, AreSoundRecords, HaveRecords}
use Rattle.rank_sched.proofs.Cited.{HaulsOfRecordsAreSound, FewerWorkersAreSound, greater_floor, NumbersRise, Task}
use Rattle.rank_sched.proofs.Cited.{All-weaker, filter_passes, recursion_from_All}
use Rattle.rank_sched.proofs.Lists.{each-weaker, one_there}
use Rattle.rank_sched.proofs.Floors.{floor-more}
use Rattle.rank_sched.proofs.OneList.{by-other}
use Rattle.rank_sched.proofs.Totals.{times-cons, range-push}

-- ---- the floor

-- if nothing was raised, the guess is the floor
no_raise : (guess : Option ℤ) → IsFloorOf guess [] guess
no_raise None = record { one_of_them = tt; guess_below = All-nil _; raised_below = All-nil _ }
no_raise (Some g) = record {
  one_of_them = inl refl;
  guess_below = one_there (λ s. IsSomeAnd (Some g) (λ f. s ≤ℤ f)) (Some g) (omega (arith, ints));
  raised_below = All-nil _;
}

-- there is a floor, whatever was raised
greatest : (guess : Option ℤ) (raised : List ℤ) → (floor : Option ℤ) × IsFloorOf guess raised floor
greatest guess [] = (guess, no_raise guess)
greatest guess (s ∷ raised) =
    let rest = greatest guess raised in
    (greater_floor rest.0 (Some s), floor-more guess rest.0 (Some s) [] [] raised rest.1)

-- ---- each morsel once

-- the records of the workers from a number on
from_worker : ℕ → List Record → List Record
from_worker w rs = filter (λ r. nat_le w r.worker) rs

-- how often a number occurs among the morsels of records, of which the first may be left out
times-if : (x : ℕ) (b : Bool) (r : Record) (rs : List Record)
    → times x (morsels_of (cond b (r ∷ rs) rs)) ≡ cond b (one_if_equal r.morsel x) 0 + times x (morsels_of rs)
times-if x true r rs = times-cons x r.morsel (morsels_of rs)
times-if x false r rs = omega arith

-- a worker from a number on has that number, or a later one
this_or_later : (k w n : ℕ) → cond (nat_le w k) n 0 ≡ cond (k == w) n 0 + cond (nat_le (w + 1) k) n 0
this_or_later k w n = grind (arith, nat_tests)

-- the records from a worker on are its own and those of the workers after it
times-worker : (x w : ℕ) (rs : List Record) → times x (morsels_of (from_worker w rs))
    ≡ times x (morsels_of (records_by w rs)) + times x (morsels_of (from_worker (w + 1) rs))
unfolding from_worker
times-worker x w [] = refl
times-worker x w (r ∷ rs) =
    let here = times-if x (nat_le w r.worker) r (from_worker w rs) in
    let own = times-if x (r.worker == w) r (records_by w rs) in
    let later = times-if x (nat_le (w + 1) r.worker) r (from_worker (w + 1) rs) in
    omega (arith, this_or_later r.worker w (one_if_equal r.morsel x), times-worker x w rs)

-- after all workers there are none
times-none : (x w : ℕ) (rs : List Record) → AllByRecursion (λ r. r.worker < w) rs
    → times x (morsels_of (from_worker w rs)) ≡ 0
unfolding from_worker
times-none x w [] low = refl
times-none x w (r ∷ rs) low =
    let less : r.worker < w = low.0 in
    let out : nat_le w r.worker ≡ false = grind (arith, nat_tests) in
    ap (λ (b : Bool). times x (morsels_of (cond b (r ∷ from_worker w rs) (from_worker w rs)))) out
    ∙ times-none x w rs low.1

-- from the first on there are all
times-all : (x : ℕ) (rs : List Record) → times x (morsels_of (from_worker 0 rs)) ≡ times x (morsels_of rs)
unfolding from_worker
times-all x [] = refl
times-all x (r ∷ rs) =
    let here : nat_le 0 r.worker ≡ true = grind (arith, nat_tests) in
    let more = times-cons x r.morsel (morsels_of (from_worker 0 rs)) in
    ap (λ (b : Bool). times x (morsels_of (cond b (r ∷ from_worker 0 rs) (from_worker 0 rs)))) here
    ∙ omega (arith, times-cons x r.morsel (morsels_of rs), times-all x rs)

-- the records of a worker name it
by-named : (w : ℕ) (rs : List Record) → AllByRecursion (λ r. r.worker ≡ w) (records_by w rs)
by-named w rs = recursion_from_All (λ (r : Record). r.worker ≡ w) (records_by w rs)
    (All-weaker (λ (r : Record). (r.worker == w) ≡ true) (λ (r : Record). r.worker ≡ w) (λ r is. eqb-true r.worker w is)
    (records_by w rs) (filter_passes (λ (r : Record). r.worker == w) rs))

-- ---- hauls

module _ (t : Task) (guess : Option ℤ) (workers : ℕ) (rs : List Record)
    (s : AreSoundRecords t guess workers rs) where
  -- each is the haul of its worker
  each-haul : (w : ℕ) (hs : List Haul) → HaveRecords t w rs hs → AreHaulsFrom t w hs
  each-haul w [] have = tt
  each-haul w (h ∷ hs) have =
      let own : records_by w rs ≡ records_of h = sym have.0.0 in (
        record {
          named = subst (AllByRecursion (λ (r : Record). r.worker ≡ w)) own (by-named w rs);
          rise = subst (λ (l : List Record). NumbersRise (morsels_of l)) own (s.rise w);
          skips = subst (AllByRecursion (IsRightSkip t)) own
              (all-filter (IsRightSkip t) (λ (r : Record). r.worker == w) rs s.skips);
          pool = have.0.1 ∙ ap (pool_of t) own;
        },
        each-haul (w + 1) hs have.1,
      )

  -- the floors that each worker saw rise
  each-upward : (w : ℕ) (hs : List Haul) → HaveRecords t w rs hs
      → AllByRecursion (λ (h : Haul). SeeUpward (option_to_list guess) (exchanges_in t h)) hs
  each-upward w [] have = tt
  each-upward w (h ∷ hs) have = (
    subst (λ (l : List Record). SeeUpward (option_to_list guess) (exchanges t [] l)) (sym have.0.0) (s.upward w),
    each-upward (w + 1) hs have.1,
  )

  -- the turns of the workers are those of the hauls
  turns-are : (w : ℕ) (hs : List Haul) → HaveRecords t w rs hs
      → flat_map (λ (v : ℕ). exchanges t [] (records_by v rs)) (range_with_len w (length hs)) ≡ turns_of t hs
  turns-are w [] have = refl
  turns-are w (h ∷ hs) have =
      ap (λ (l : List Record). exchanges t [] l
      ++ flat_map (λ (v : ℕ). exchanges t [] (records_by v rs)) (range_with_len (w + 1) (length hs))) (sym have.0.0)
      ∙ ap (λ (l : List Exchange). exchanges_in t h ++ l) (turns-are (w + 1) hs have.1)

  -- the morsels of the hauls are those of the workers from the first of these on
  morsels-are : (x w : ℕ) (hs : List Haul) → HaveRecords t w rs hs → AllByRecursion (λ r. r.worker < w + length hs) rs
      → times x (morsels_of (all_records hs)) ≡ times x (morsels_of (from_worker w rs))
  morsels-are x w [] have low =
      sym (times-none x w rs (each-weaker (λ (r : Record). r.worker < w + 0) (λ (r : Record). r.worker < w) rs
      (λ r lt. omega (arith, lt)) low))
  morsels-are x w (h ∷ hs) have low =
      let both = ap (times x) (map-append (λ (r : Record). r.morsel) (records_of h) (all_records hs))
      ∙ times-append x (morsels_of (records_of h)) (morsels_of (all_records hs)) in
      let own = ap (λ (l : List Record). times x (morsels_of l)) have.0.0 in
      let rest = morsels-are x (w + 1) hs have.1 (each-weaker (λ (r : Record). r.worker < w + length (h ∷ hs))
      (λ (r : Record). r.worker < w + 1 + length hs) rs (λ r lt. omega (arith, lt)) low) in
      omega (arith, times-worker x w rs)

-- hauls that have the records of a sound run are sound, under a floor
pub hauls_of_records : HaulsOfRecordsAreSound
hauls_of_records t guess rs hs s have =
    let workers = length hs in
    let turns : turns_by t workers rs ≡ turns_of t hs = turns-are t guess workers rs s 0 hs have in
    let floor = greatest guess (raised_in (turns_of t hs)) in (
      record {
        each = each-haul t guess workers rs s 0 hs have;
        once = λ x.
            morsels-are t guess workers rs s x 0 hs have
            (each-weaker (λ (r : Record). r.worker < workers) (λ (r : Record). r.worker < 0 + workers) rs
            (λ r lt. omega (arith, lt)) s.named)
            ∙ times-all x rs ∙ s.once x;
      },
      (
        floor.0,
        record {
          floor_is = floor.1;
          upward = each-upward t guess workers rs s 0 hs have;
          seen = subst (λ (l : List Exchange). All (IsGuessOrRaised guess (raised_in l)) (seen_in l)) turns s.seen;
        },
      ),
    )

-- ---- more workers

-- workers that have no records have no turns
turns-more : (t : Task) (rs : List Record) (n more : ℕ) → AllByRecursion (λ r. r.worker < n) rs
    → turns_by t (n + more) rs ≡ turns_by t n rs
turns-more t rs n zero low = ap (λ (m : ℕ). turns_by t m rs) (omega arith)
turns-more t rs n (suc more) low =
    let turns : ℕ → List Exchange = λ w. exchanges t [] (records_by w rs) in
    let last : ℕ = 0 + (n + more) in
    let none : records_by last rs ≡ [] = grind (arith, by-other, each-weaker) in
    let one_more : n + suc more ≡ suc (n + more) = omega arith in
    ap (λ (m : ℕ). turns_by t m rs) one_more
    ∙ ap (flat_map turns) (range-push 0 (n + more))
    ∙ flat_map-append turns (range_with_len 0 (n + more)) (last ∷ [])
    ∙ ap (λ (l : List Record). turns_by t (n + more) rs ++ (exchanges t [] l ++ [])) none
    ∙ append-nil (turns_by t (n + more) rs) ∙ turns-more t rs n more low

-- the records of a sound run of fewer workers are those of a sound run of more
pub of_fewer_workers : FewerWorkersAreSound
of_fewer_workers t guess fewer more rs le s =
    let all : fewer + (more - fewer) ≡ more = omega arith in
    let turns : turns_by t more rs ≡ turns_by t fewer rs =
    ap (λ (n : ℕ). turns_by t n rs) (sym all) ∙ turns-more t rs fewer (more - fewer) s.named in
    record {
      named = each-weaker (λ (r : Record). r.worker < fewer) (λ (r : Record). r.worker < more) rs
          (λ r lt. omega (arith, lt, le)) s.named;
      rise = s.rise;
      once = s.once;
      skips = s.skips;
      upward = s.upward;
      seen = subst (λ (l : List Exchange). All (IsGuessOrRaised guess (raised_in l)) (seen_in l)) (sym turns) s.seen;
    }

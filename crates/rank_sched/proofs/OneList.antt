-- The records of sound hauls as one list.
use Rattle.rank_sched.proofs.Cited.{rules, ◌≡◌, ◌≢◌, ℕ, ◌+◌, ◌<◌, ◌≤◌, true, false, List, [], ◌∷◌, ◌++◌, length, refl}
use Rattle.rank_sched.proofs.Cited.{sym, ap, ◌∙◌, append-nil, append_assoc, arith, option_to_list, ◌==◌, flat_map}
use Rattle.rank_sched.proofs.Cited.{range_with_len, AllByRecursion, times_below, Record, Haul, Task, Exchange}
use Rattle.rank_sched.proofs.Cited.{morsels_of, exchanges, SeeUpward, NumbersRise, records_of, all_records}
use Rattle.rank_sched.proofs.Cited.{exchanges_in, turns_of, IsHaulOf, AreHaulsFrom, records_by, turns_by, SeenIsAtMost}
use Rattle.rank_sched.proofs.Cited.{NoHauls, RecordsAreSound}
use Rattle.rank_sched.proofs.Lists.{each-append, each-weaker}
use Rattle.rank_sched.proofs.Reached.{all_skips}

-- no floor that was seen is above the floor
pub seen_at_most : SeenIsAtMost
seen_at_most t guess s h = grind arith

-- no hauls are sound if and only if there are no morsels
pub no_hauls : NoHauls
no_hauls t = (
  λ s. let none : 0 ≡ times_below 0 t.len = s.once 0 in grind arith,
  λ e. record { each = tt; once = λ x. grind arith },
)

-- ---- by worker

-- a worker's records in two lists are those in the first, and then those in the second
by-append : (w : ℕ) (xs ys : List Record) → records_by w (xs ++ ys) ≡ records_by w xs ++ records_by w ys
by-append w [] ys = refl
by-append w (x ∷ xs) ys = grind (arith, by-append w xs ys)

-- a worker's own records are all its own
by-own : (w : ℕ) (rs : List Record) → AllByRecursion (λ r. r.worker ≡ w) rs → records_by w rs ≡ rs
by-own w [] h = refl
by-own w (r ∷ rs) h = grind (arith, by-own w rs h.1)

-- and no other's
pub by-other : (w : ℕ) (rs : List Record) → AllByRecursion (λ r. r.worker ≢ w) rs → records_by w rs ≡ []
by-other w [] h = refl
by-other w (r ∷ rs) h = grind (arith, by-other w rs h.1)

-- the workers of hauls from one number on
named_from : (t : Task) (w : ℕ) (hs : List Haul) → AreHaulsFrom t w hs
    → AllByRecursion (λ r. (w ≤ r.worker) × (r.worker < w + length hs)) (all_records hs)
named_from t w [] a = tt
named_from t w (h ∷ hs) a = grind (arith, each-append, each-weaker, named_from t (w + 1) hs a.1)

-- the records of the first of some hauls, after records of smaller workers
first_own : (t : Task) (w : ℕ) (front : List Record) (h : Haul) (hs : List Haul)
    → AllByRecursion (λ r. r.worker < w) front → IsHaulOf t w h → AreHaulsFrom t (w + 1) hs
    → records_by w (front ++ (records_of h ++ all_records hs)) ≡ records_of h
first_own t w front h hs low own rest = search (rules, by-append, by-other, each-weaker, by-own, named_from, append-nil)

-- what holds of no records and of each haul's holds of each worker's
each_worker : (t : Task) (P : List Record → Type 0) → P [] → (w v : ℕ) (hs : List Haul) → AreHaulsFrom t v hs
    → AllByRecursion (λ h. P (records_of h)) hs → P (records_by w (all_records hs))
each_worker t P none w v [] a p = none
each_worker t P none w v (h ∷ hs) a p =
    elim (v == w) as (λ b. (v == w) ≡ b → P (records_by w (records_of h ++ all_records hs))) [
      | true ↦ grind (arith, first_own t v [] h hs tt a.0 a.1)
      | false ↦ λ e.
          let apart : v ≢ w = grind arith in
          let other : records_by w (records_of h) ≡ [] =
          grind (arith, by-other, each-weaker) in
          rw (← sym (by-append w (records_of h) (all_records hs) ∙ ap
          (λ (l : List Record). l ++ records_by w (all_records hs)) other))
          (each_worker t P none w (v + 1) hs a.1 p.1)
    ] refl

-- the turns of workers from one number on are those of their hauls
turns_from : (t : Task) (w : ℕ) (front : List Record) (hs : List Haul) → AllByRecursion (λ r. r.worker < w) front
    → AreHaulsFrom t w hs → flat_map (λ (v : ℕ). exchanges t [] (records_by v (front ++ all_records hs)))
    (range_with_len w (length hs)) ≡ turns_of t hs
turns_from t w front [] low a = refl
turns_from t w front (h ∷ hs) low a =
    let own : records_by w (front ++ (records_of h ++ all_records hs)) ≡ records_of h =
    first_own t w front h hs low a.0 a.1 in
    let more : AllByRecursion (λ r. r.worker < w + 1) (front ++ records_of h) =
    grind (arith, each-append, each-weaker) in
    let rest : flat_map (λ (v : ℕ). exchanges t [] (records_by v (front ++ (records_of h ++ all_records hs))))
    (range_with_len (w + 1) (length hs)) ≡ turns_of t hs =
    grind (arith, append_assoc, turns_from t (w + 1) (front ++ records_of h) hs more a.1) in
    ap (λ (l : List Record). exchanges t [] l ++ flat_map
    (λ (v : ℕ). exchanges t [] (records_by v (front ++ (records_of h ++ all_records hs))))
    (range_with_len (w + 1) (length hs))) own
    ∙ ap (λ (l : List Exchange). exchanges_in t h ++ l) rest

-- the records of each sound haul rise by morsel
each_rises : (t : Task) (w : ℕ) (hs : List Haul) → AreHaulsFrom t w hs
    → AllByRecursion (λ h. NumbersRise (morsels_of (records_of h))) hs
each_rises t w [] a = tt
each_rises t w (h ∷ hs) a = (a.0.rise, each_rises t (w + 1) hs a.1)

-- sound hauls under a floor are sound as one list of records
pub records_sound : RecordsAreSound
records_sound t guess hs floor s f =
    let turns : turns_by t (length hs) (all_records hs) ≡ turns_of t hs = turns_from t 0 [] hs tt s.each in
    record {
      named = grind (arith, each-weaker, named_from);
      rise = λ w. each_worker t (λ l. NumbersRise (morsels_of l)) tt w 0 hs s.each (each_rises t 0 hs s.each);
      once = s.once;
      skips = all_skips t 0 hs s.each;
      upward = λ w. each_worker t (λ l. SeeUpward (option_to_list guess) (exchanges t [] l)) tt w 0 hs
          s.each f.upward;
      seen = search rules;
    }

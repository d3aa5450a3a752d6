-- Hauls of workers, of threads as of a machine: sound by themselves, with the floor, and as one list of records.
use Rattle.std.specs.Prelude.{◌≡◌, ℕ, ◌+◌, ◌<◌, ◌==◌, List, [], ◌∷◌, filter, ℤ, Option, option_to_list, All}
use Rattle.std.specs.List.{flat_map, range_with_len, AllByRecursion, AllZip}
use Rattle.ghcn_fields.specs.Counting.{HasEachBelow}
use Rattle.ghcn_fields.specs.Floor.{IsFloorOf, IsGuessOrRaised}
use Rattle.rank_sched.specs.declared.record.Record.{Record}
use Rattle.rank_sched.specs.declared.haul.Haul.{Haul}
use Rattle.rank_sched.specs.Task.{Task}
use Rattle.rank_sched.specs.Exchanges.{Exchange, morsels_of, pool_of, IsRightSkip, exchanges, seen_in, raised_in}
use Rattle.rank_sched.specs.Exchanges.{SeeUpward}
use Rattle.rank_sched.specs.Machine.{Worker}
use Rattle.rank_sched.specs.SoundRun.{NumbersRise}

-- the records of a haul
abbrev pub records_of : Haul → List Record
records_of h = h.records.items

-- all records, haul after haul
abbrev pub all_records : List Haul → List Record
all_records hs = flat_map records_of hs

-- a worker's haul: its records name it, rise by morsel, skip what they should, and the rest is in its pool
pub record IsHaulOf (t : Task) (w : ℕ) (h : Haul) : Type 0 where
  pub named : AllByRecursion (λ r. r.worker ≡ w) (records_of h)
  pub rise : NumbersRise (morsels_of (records_of h))
  pub skips : AllByRecursion (IsRightSkip t) (records_of h)
  pub pool : h.pool ≡ pool_of t (records_of h)

-- the hauls of the workers with these numbers and upwards
abbrev pub AreHaulsFrom : Task → ℕ → List Haul → Type 0
AreHaulsFrom t w [] = Unit {0}
AreHaulsFrom t w (h ∷ hs) = IsHaulOf t w h × AreHaulsFrom t (w + 1) hs

-- sound hauls: each is its worker's, and each morsel has exactly one record over all of them
pub record AreSound (t : Task) (hs : List Haul) : Type 0 where
  pub each : AreHaulsFrom t 0 hs
  pub once : HasEachBelow t.len (morsels_of (all_records hs))

-- the turns of a haul's worker
abbrev pub exchanges_in : Task → Haul → List Exchange
exchanges_in t h = exchanges t [] (records_of h)

-- the turns of all hauls
abbrev pub turns_of : Task → List Haul → List Exchange
turns_of t hs = flat_map (exchanges_in t) hs

-- hauls from under a floor: it is the greatest of guess and raised scores, and floors seen rise and are among these
pub record AreUnderFloor (t : Task) (guess : Option ℤ) (hs : List Haul) (floor : Option ℤ) : Type 0 where
  pub floor_is : IsFloorOf guess (raised_in (turns_of t hs)) floor
  pub upward : AllByRecursion (λ h. SeeUpward (option_to_list guess) (exchanges_in t h)) hs
  pub seen : All (IsGuessOrRaised guess (raised_in (turns_of t hs))) (seen_in (turns_of t hs))

-- the hauls are those of some workers, in their order
abbrev pub AreHaulsOf : List Worker → List Haul → Type 0
AreHaulsOf vs hs = AllZip (λ h v. (records_of h ≡ v.records) × (h.pool ≡ v.pool)) hs vs

-- ---- as one list of records

-- the records of one worker, in their order
abbrev pub records_by : ℕ → List Record → List Record
records_by w rs = filter (λ r. r.worker == w) rs

-- hauls of the workers with these numbers and upwards have these records: each has those of its worker, in their order,
-- and its pool is that of these
abbrev pub HaveRecords : Task → ℕ → List Record → List Haul → Type 0
HaveRecords t w rs [] = Unit {0}
HaveRecords t w rs (h ∷ hs) =
    ((records_of h ≡ records_by w rs) × (h.pool ≡ pool_of t (records_by w rs))) × HaveRecords t (w + 1) rs hs

-- the turns of that many workers, worker after worker
abbrev pub turns_by : Task → ℕ → List Record → List Exchange
turns_by t workers rs = flat_map (λ w. exchanges t [] (records_by w rs)) (range_with_len 0 workers)

-- the records of a sound run of that many workers, all in one list, if those of each worker are in their order
pub record AreSoundRecords (t : Task) (guess : Option ℤ) (workers : ℕ) (rs : List Record) : Type 0 where
  -- records: they name the workers, each worker's rise by morsel, and each morsel has exactly one
  pub named : AllByRecursion (λ r. r.worker < workers) rs
  pub rise : (w : ℕ) → NumbersRise (morsels_of (records_by w rs))
  pub once : HasEachBelow t.len (morsels_of rs)
  -- skips
  pub skips : AllByRecursion (IsRightSkip t) rs
  -- seen, of the guess and of the scores raised by these records; the floor is the greatest of these
  pub upward : (w : ℕ) → SeeUpward (option_to_list guess) (exchanges t [] (records_by w rs))
  pub seen : All (IsGuessOrRaised guess (raised_in (turns_by t workers rs))) (seen_in (turns_by t workers rs))

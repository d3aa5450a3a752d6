-- What is true of the state of every run, at each moment, and once all workers have stopped.
use Rattle.std.specs.Prelude.{◌≡◌, ℕ, ◌+◌, ◌<◌, ◌≤◌, List, [], ◌∷◌, ◌++◌, length, ℤ, Option, None, option_to_list, All}
use Rattle.std.specs.Prelude.{⊤}
use Rattle.std.specs.List.{flat_map, AllByRecursion}
use Rattle.ghcn_fields.specs.Counting.{HasEachBelow}
use Rattle.ghcn_fields.specs.Floor.{IsFloorOf, IsGuessOrRaised}
use Rattle.rank_sched.specs.declared.turn.Turn.{Turn}
use Rattle.rank_sched.specs.declared.turn.Turn.TheVariants.{Idle, Claimed, Looked, Stopped}
use Rattle.rank_sched.specs.Task.{Task}
use Rattle.rank_sched.specs.Exchanges.{Exchange, morsels_of, pool_of, IsRightSkip, exchanges, seen_in, raised_in}
use Rattle.rank_sched.specs.Exchanges.{SeeUpward}
use Rattle.rank_sched.specs.Machine.{Worker, State}

-- each number is above all before it
abbrev pub NumbersRise : List ℕ → Type 0
NumbersRise [] = Unit {0}
NumbersRise (x ∷ xs) = AllByRecursion (λ y. x < y) xs × NumbersRise xs

-- the numbers that a worker has drawn and not settled
abbrev pub unsettled : Turn → List ℕ
unsettled Idle = []
unsettled (Claimed m) = m ∷ []
unsettled (Looked m seen) = m ∷ []
unsettled (Stopped n) = n ∷ []

-- what a worker claimed or looked before is a morsel, and if it stopped there is none
abbrev pub IsTurnOf : ℕ → Turn → Type 0
IsTurnOf len Idle = ⊤
IsTurnOf len (Claimed m) = m < len
IsTurnOf len (Looked m seen) = m < len
IsTurnOf len (Stopped n) = len ≤ n

-- a floor that was seen, and whose morsel isn't settled: a turn in which nothing was raised yet
abbrev pub open_exchange : Turn → List Exchange
open_exchange Idle = []
open_exchange (Claimed m) = []
open_exchange (Looked m seen) = record { seen = seen; raised = None } ∷ []
open_exchange (Stopped n) = []

-- the turns of a worker, the open one last
abbrev pub exchanges_of : Task → Worker → List Exchange
exchanges_of t v = exchanges t [] v.records ++ open_exchange v.turn

-- the turns of some workers
abbrev pub all_exchanges : Task → List Worker → List Exchange
all_exchanges t vs = flat_map (exchanges_of t) vs

-- what is true of the worker of a number
pub record IsSoundWorker (t : Task) (guess : Option ℤ) (w : ℕ) (v : Worker) : Type 0 where
  -- claims: they rise
  pub rise : NumbersRise v.claims
  -- records: they name the worker, one for each claim that is settled, in the order of the claims, each of a morsel
  pub named : AllByRecursion (λ r. r.worker ≡ w) v.records
  pub settled : v.claims ≡ morsels_of v.records ++ unsettled v.turn
  pub within : AllByRecursion (λ r. r.morsel < t.len) v.records
  pub turn : IsTurnOf t.len v.turn
  -- pool: the best of the candidates of the morsels that the records don't skip
  pub pool : v.pool ≡ pool_of t v.records
  -- skips: if and only if the floor seen is a score that the bound is strictly below
  pub skips : AllByRecursion (IsRightSkip t) v.records
  -- seen: at least the guess, and all that the worker saw or raised before
  pub upward : SeeUpward (option_to_list guess) (exchanges_of t v)

-- the workers with these numbers and upwards
abbrev pub AreSoundFrom : Task → Option ℤ → ℕ → List Worker → Type 0
AreSoundFrom t guess w [] = Unit {0}
AreSoundFrom t guess w (v ∷ vs) = IsSoundWorker t guess w v × AreSoundFrom t guess (w + 1) vs

-- the numbers that some workers drew
abbrev pub claims_in : List Worker → List ℕ
claims_in vs = flat_map (λ v. v.claims) vs

-- a sound run, at any moment
pub record IsSoundState (t : Task) (guess : Option ℤ) (s : State) : Type 0 where
  -- all claims are the numbers below next, each once
  pub claims : HasEachBelow s.next (claims_in s.workers)
  pub each : AreSoundFrom t guess 0 s.workers
  -- floor: the greatest of the guess and all raised scores
  pub floor : IsFloorOf guess (raised_in (all_exchanges t s.workers)) s.floor
  -- seen: each score is the guess, or some worker raised it
  pub seen : All (IsGuessOrRaised guess (raised_in (all_exchanges t s.workers))) (seen_in (all_exchanges t s.workers))

-- once all have stopped, each morsel has one record, and each worker drew one number past the last morsel
pub record IsSoundEnd (t : Task) (s : State) : Type 0 where
  pub once : HasEachBelow t.len (flat_map (λ v. morsels_of v.records) s.workers)
  pub next : s.next ≡ t.len + length s.workers

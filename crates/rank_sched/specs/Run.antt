-- What contracts see of a machine, and what its calls return.
use Rattle.std.specs.Prelude.{◌≡◌, ◌⊎◌, ℕ, ◌<◌, ◌≤◌, ◌++◌, Bool, true, false, ◌&&◌, not, List, [], ◌∷◌, fold, length}
use Rattle.std.specs.Prelude.{take, map, zip, IfSome, Option, None, Some, Result, Ok, Err, ℤ, slice_get, ⊤}
use Rattle.ghcn_fields.specs.Floor.{IsScore}
use Rattle.rank_pool.specs.Pools.{empty_pool, taken}
use Rattle.rank_sched.specs.declared.record.Record.{Record}
use Rattle.rank_sched.specs.declared.turn.Turn.{Turn}
use Rattle.rank_sched.specs.declared.haul.Haul.{Haul}
use Rattle.rank_sched.specs.declared.event.Event.{Event}
use Rattle.rank_sched.specs.declared.event.StepFault.{StepFault}
use Rattle.rank_sched.specs.declared.event.StepFault.TheVariants.{NoWorker, NotNow, Memory}
use Rattle.rank_sched.specs.Plan.{Plan, IsPlan}
use Rattle.rank_sched.specs.Task.{Task, task_of}
use Rattle.rank_sched.specs.Exchanges.{morsels_of, scanned_for}
use Rattle.rank_sched.specs.Machine.{Worker, State, started, refusal, IsStep, Reaches, all_stopped}
use Rattle.rank_sched.specs.SoundRun.{unsettled, IsSoundState}
use Rattle.rank_sched.specs.Hauls.{records_of}

-- a machine: its plan and guess, its state, and whether it has failed, that is, met out of memory
pub record Running : Type 0 where
  pub plan : Plan
  pub guess : Option ℤ
  pub state : State
  pub failed : Bool

-- the worker that is here in its turn and has this haul: it claimed what it recorded, and then what isn't settled
abbrev pub worker_with : Turn × Haul → Worker
worker_with x = record {
  turn = x.0;
  claims = morsels_of (records_of x.1) ++ unsettled x.0;
  records =
      records_of x.1;
  pool = x.1.pool;
}

-- the state of workers that are here in their turns and have these hauls
abbrev pub state_of : ℕ → Option ℤ → List Turn → List Haul → State
state_of next floor turns hauls = record { next = next; floor = floor; workers = map worker_with (zip turns hauls) }

-- a haul after one record more: the candidates that the record stands for were offered to the pool
pub record HasSettled (t : Task) (h : Haul) (r : Record) (h' : Haul) : Type 0 where
  pub records : records_of h' ≡ records_of h ++ r ∷ []
  pub pool : h'.pool ≡ fold taken h.pool (scanned_for t r)

-- a haul of nothing
pub record IsEmptyHaul (k : ℕ) (h : Haul) : Type 0 where
  pub records : records_of h ≡ []
  pub pool : h.pool ≡ empty_pool k

-- a haul with the same records and the same pool
pub record IsSameHaul (h h' : Haul) : Type 0 where
  pub records : records_of h' ≡ records_of h
  pub pool : h'.pool ≡ h.pool

-- what is true of every machine: its plan is one, it has 1 to 64 workers, and its state is sound
pub record IsRunning (m : Running) : Type 0 where
  pub plan : IsPlan m.plan
  pub guess : IfSome m.guess IsScore
  pub some : 0 < length m.state.workers
  pub limit : length m.state.workers ≤ 64
  pub sound : IsSoundState (task_of m.plan) m.guess m.state

-- a machine at the start
abbrev pub new_run : Plan → ℕ → Option ℤ → Running
new_run p workers guess = record {
  plan = p;
  guess = guess;
  state = started (task_of p) workers guess;
  failed =
      false;
}

-- it didn't fail, and every worker has stopped
abbrev pub is_stopped : Running → Bool
is_stopped m = not m.failed && all_stopped m.state.workers

-- an event was refused for a reason other than memory: the machine hadn't failed, and is as before
pub record Refuses (m : Running) (e : Event) (why : StepFault) (m' : Running) : Type 0 where
  pub running : m.failed ≡ false
  pub refused : refusal m.state e ≡ Some why
  pub unchanged : m' ≡ m

-- memory was refused: the machine had failed before, or fails at an event that isn't refused; its state is as before
pub record Fails (m : Running) (e : Event) (m' : Running) : Type 0 where
  pub late : m.failed ≡ false → refusal m.state e ≡ None
  pub failed : m' ≡ record m { failed = true }

-- a step was made
pub record Steps (m : Running) (e : Event) (m' : Running) : Type 0 where
  pub running : m.failed ≡ false
  pub step : IsStep (task_of m.plan) m.state e m'.state
  pub kept : m' ≡ record m { state = m'.state }

-- what a machine returns for an event, and what it is afterwards
abbrev pub IsAnswered : {A : Type 0} → Running → Event → Result A StepFault → Running → Type 0
IsAnswered m e (Ok done) m' = Steps m e m'
IsAnswered m e (Err (NoWorker w)) m' = Refuses m e (NoWorker w) m'
IsAnswered m e (Err (NotNow w)) m' = Refuses m e (NotNow w) m'
IsAnswered m e (Err (Memory x)) m' = Fails m e m'

-- the result is out of memory
abbrev pub IsOfMemory : {A : Type 0} → Result A StepFault → Type 0
IsOfMemory (Ok done) = ⊥
IsOfMemory (Err (NoWorker w)) = ⊥
IsOfMemory (Err (NotNow w)) = ⊥
IsOfMemory (Err (Memory x)) = ⊤

-- a machine that was led here by these events, and by no others
pub record IsReplayed (p : Plan) (workers : ℕ) (guess : Option ℤ) (es : List Event) (m : Running) : Type 0 where
  pub running : m.failed ≡ false
  pub reached : Reaches (task_of p) workers guess es m.state
  pub plan : m.plan ≡ p
  pub guessed : m.guess ≡ guess

-- a replay ended: that many events were accepted, and the next was refused for this reason
pub record IsRefusedAt (p : Plan) (workers : ℕ) (guess : Option ℤ) (es : List Event) (accepted : ℕ)
    (why : StepFault) : Type 0 where
  pub state : State
  pub event : Event
  pub next : slice_get es accepted ≡ Some event
  pub reached : Reaches (task_of p) workers guess (take accepted es) state
  pub refused : refusal state event ≡ Some why

-- a replay met out of memory: at the start, or at an event that isn't refused after those that were accepted
pub record FailsAt (p : Plan) (workers : ℕ) (guess : Option ℤ) (es : List Event) (accepted : ℕ) : Type 0 where
  pub state : State
  pub reached : Reaches (task_of p) workers guess (take accepted es) state
  pub late : (accepted ≡ 0) ⊎ ((event : Event) × (slice_get es accepted ≡ Some event) × (refusal state event ≡ None))

-- why a replay ended
abbrev pub IsReplayFault : Plan → ℕ → Option ℤ → List Event → ℕ → StepFault → Type 0
IsReplayFault p workers guess es accepted (NoWorker w) = IsRefusedAt p workers guess es accepted (NoWorker w)
IsReplayFault p workers guess es accepted (NotNow w) = IsRefusedAt p workers guess es accepted (NotNow w)
IsReplayFault p workers guess es accepted (Memory x) = FailsAt p workers guess es accepted

-- The run of some workers over a plan, event by event (after Leis, Boncz, Kemper and Neumann, 2014).
use Rattle.std.specs.Prelude.{◌≡◌, ℕ, ◌+◌, Bool, true, false, nat_lt, if◌then◌else◌, List, [], ◌∷◌, ◌++◌, length}
use Rattle.std.specs.Prelude.{replicate, Option, None, Some, ℤ, slice_get, slice_set, fold}
use Rattle.std.specs.List.{list_all}
use Rattle.std.specs.Option.{option_map_or}
use Rattle.std.specs.Int.{int_max}
use Rattle.ghcn_fields.specs.Faults.{first_failing}
use Rattle.rank_scores.specs.Order.{bound_is_below}
use Rattle.rank_pool.specs.Pools.{Pool, empty_pool, taken, last_score}
use Rattle.rank_sched.specs.declared.record.Record.{Record}
use Rattle.rank_sched.specs.declared.event.Event.{Event}
use Rattle.rank_sched.specs.declared.event.Event.TheVariants.{Claim, Look, Settle}
use Rattle.rank_sched.specs.declared.event.StepFault.{StepFault}
use Rattle.rank_sched.specs.declared.event.StepFault.TheVariants.{NoWorker, NotNow}
use Rattle.rank_sched.specs.declared.turn.Turn.{Turn}
use Rattle.rank_sched.specs.declared.turn.Turn.TheVariants.{Idle, Claimed, Looked, Stopped}
use Rattle.rank_sched.specs.Task.{Task}
use Rattle.rank_sched.specs.Exchanges.{scanned_for}

-- a worker: if it is in its turn, the numbers that it drew, its records, and what its pool holds
pub record Worker : Type 0 where
  pub turn : Turn
  pub claims : List ℕ
  pub records : List Record
  pub pool : Pool

-- the number that the next claim draws, the floor, and the workers by number
pub record State : Type 0 where
  pub next : ℕ
  pub floor : Option ℤ
  pub workers : List Worker

-- a worker that has done nothing
abbrev pub new_worker : ℕ → Worker
new_worker k = record { turn = Idle; claims = []; records = []; pool = empty_pool k }

-- at the start the next number is 0, the floor is the guess, and every worker is idle
abbrev pub started : Task → ℕ → Option ℤ → State
started t workers guess = record { next = 0; floor = guess; workers = replicate workers (new_worker t.k) }

-- ---- which event is accepted

-- the worker of an event
abbrev pub worker_of : Event → ℕ
worker_of (Claim w) = w
worker_of (Look w) = w
worker_of (Settle w) = w

-- the event is the one that this turn waits for: a claim, then a look, then a settle
abbrev pub is_awaited : Turn → Event → Bool
is_awaited Idle (Claim w) = true
is_awaited (Claimed m) (Look w) = true
is_awaited (Looked m seen) (Settle w) = true
is_awaited turn e = false

-- the event is the one that its worker waits for
abbrev pub is_now : State → Event → Bool
is_now s e = option_map_or (λ v. is_awaited v.turn e) (slice_get s.workers (worker_of e)) false

-- why an event is refused: first that there is no such worker, then that it isn't that worker's next event
abbrev pub refusal : State → Event → Option StepFault
refusal s e = first_failing ((nat_lt (worker_of e) (length s.workers), NoWorker (worker_of e)) ∷
    (is_now s e, NotNow (worker_of e)) ∷ [])

-- ---- what an accepted event does

-- a worker's turn after it drew a number: past the last morsel it stops
abbrev pub drawn : Task → ℕ → Turn
drawn t n = if nat_lt n t.len then Claimed n else Stopped n

-- what a worker writes down that saw this floor before this morsel
abbrev pub record_of : Task → ℕ → ℕ → Option ℤ → Record
record_of t w m seen = record { morsel = m; worker = w; seen = seen; skipped = bound_is_below seen (t.bound m) }

-- the greater of two floors; none is the least
abbrev pub greater_floor : Option ℤ → Option ℤ → Option ℤ
greater_floor None b = b
greater_floor (Some a) None = Some a
greater_floor (Some a) (Some b) = Some (int_max a b)

-- the floor after a record: the greater of itself and the pool's k-th score, unless the morsel was skipped
abbrev pub floor_after : Option ℤ → Record → Pool → Option ℤ
floor_after floor r pool = if r.skipped then floor else greater_floor floor (last_score pool)

-- an idle worker draws the next number
pub record IsClaim (t : Task) (s s' : State) (v v' : Worker) : Type 0 where
  pub idle : v.turn ≡ Idle
  pub turn : v'.turn ≡ drawn t s.next
  pub claims : v'.claims ≡ v.claims ++ s.next ∷ []
  pub records : v'.records ≡ v.records
  pub pool : v'.pool ≡ v.pool
  pub next : s'.next ≡ s.next + 1
  pub floor : s'.floor ≡ s.floor

-- a worker that claimed sees the floor
pub record IsLook (s s' : State) (v v' : Worker) : Type 0 where
  pub morsel : ℕ
  pub claimed : v.turn ≡ Claimed morsel
  pub turn : v'.turn ≡ Looked morsel s.floor
  pub claims : v'.claims ≡ v.claims
  pub records : v'.records ≡ v.records
  pub pool : v'.pool ≡ v.pool
  pub next : s'.next ≡ s.next
  pub floor : s'.floor ≡ s.floor

-- a worker that looked writes its record, offers the candidates unless it skips, and may raise the floor
pub record IsSettle (t : Task) (w : ℕ) (s s' : State) (v v' : Worker) : Type 0 where
  pub morsel : ℕ
  pub seen : Option ℤ
  pub looked : v.turn ≡ Looked morsel seen
  pub turn : v'.turn ≡ Idle
  pub claims : v'.claims ≡ v.claims
  pub records : v'.records ≡ v.records ++ record_of t w morsel seen ∷ []
  pub pool : v'.pool ≡ fold taken v.pool (scanned_for t (record_of t w morsel seen))
  pub next : s'.next ≡ s.next
  pub floor : s'.floor ≡ floor_after s.floor (record_of t w morsel seen) v'.pool

-- what an event does to the two words and to its worker
abbrev pub Does : Task → Event → State → State → Worker → Worker → Type 0
Does t (Claim w) s s' v v' = IsClaim t s s' v v'
Does t (Look w) s s' v v' = IsLook s s' v v'
Does t (Settle w) s s' v v' = IsSettle t w s s' v v'

-- a step: the event does its work on its worker, and the other workers stay as they are
pub record IsStep (t : Task) (s : State) (e : Event) (s' : State) : Type 0 where
  pub before : Worker
  pub after : Worker
  pub here : slice_get s.workers (worker_of e) ≡ Some before
  pub does : Does t e s s' before after
  pub others : s'.workers ≡ slice_set s.workers (worker_of e) after

-- ---- whole runs

-- the events lead from one state to another, one after the other
abbrev pub Leads : Task → State → List Event → State → Type 0
Leads t s [] s' = s' ≡ s
Leads t s (e ∷ es) s' = (mid : State) × IsStep t s e mid × Leads t mid es s'

-- the state is reached from the start by these events
abbrev pub Reaches : Task → ℕ → Option ℤ → List Event → State → Type 0
Reaches t workers guess es s = Leads t (started t workers guess) es s

-- the worker has stopped
abbrev pub has_stopped : Turn → Bool
has_stopped Idle = false
has_stopped (Claimed m) = false
has_stopped (Looked m seen) = false
has_stopped (Stopped n) = true

-- every one of some workers has stopped
abbrev pub all_stopped : List Worker → Bool
all_stopped vs = list_all (λ v. has_stopped v.turn) vs

-- ---- the same as a function, to compute worked runs

-- a state with another worker at a place
abbrev pub with_worker : ℕ → Option ℤ → List Worker → ℕ → Worker → State
with_worker next floor vs w v = record { next = next; floor = floor; workers = slice_set vs w v }

-- a settled worker, and the floor after its record
abbrev pub settled : Task → State → ℕ → Worker → Record → Pool → State
settled t s w v r pool = with_worker s.next (floor_after s.floor r pool) s.workers w
    (record { turn = Idle; claims = v.claims; records = v.records ++ r ∷ []; pool = pool })

-- the state after an event that the turn of its worker waits for; after any other it is as before
abbrev pub moved : Task → State → Event → Worker → Turn → State
moved t s (Claim w) v Idle = with_worker (s.next + 1) s.floor s.workers w
    (record { turn = drawn t s.next; claims = v.claims ++ s.next ∷ []; records = v.records; pool = v.pool })
moved t s (Look w) v (Claimed m) = with_worker s.next s.floor s.workers w
    (record { turn = Looked m s.floor; claims = v.claims; records = v.records; pool = v.pool })
moved t s (Settle w) v (Looked m seen) = settled t s w v (record_of t w m seen)
    (fold taken v.pool (scanned_for t (record_of t w m seen)))
moved t s e v turn = s

-- the state after an accepted event
abbrev pub after : Task → State → Event → State
after t s e = option_map_or (λ v. moved t s e v v.turn) (slice_get s.workers (worker_of e)) s

-- the state after some events and how many were accepted, and why the next was refused, if one was
abbrev pub replayed : Task → ℕ → State → List Event → State × ℕ × Option StepFault
replayed t n s [] = (s, n, None)
replayed t n s (e ∷ es) = elim (refusal s e) [
  | None ↦ replayed t (n + 1) (after t s e) es
  | Some why ↦
      (s, n, Some why)
]

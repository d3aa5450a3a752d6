-- Steps: which are accepted, that they are computed, and that a machine that failed stays so.
use Rattle.rank_sched.proofs.Cited.{◌≡◌, true, Some, None, arith, slice_get, Event, Turn, Task, Worker, State}
use Rattle.rank_sched.proofs.Cited.{worker_of, is_awaited, refusal, IsStep, Does, moved, after, FailedStaysFailed}
use Rattle.rank_sched.proofs.Cited.{OneWorkerHasNoChoice, StepsAreComputed, WantOfMemoryFails, ints, slice_get_within}

-- ---- a machine that failed

-- a machine that failed returns out of memory for each event, stays as it is, and isn't stopped
pub failed_stays : FailedStaysFailed
failed_stays m m' e x f a = grind arith

-- running out of memory leaves a machine that failed
pub want_fails : WantOfMemoryFails
want_fails m m' e x w a = grind arith

-- ---- which events are accepted

-- an event that isn't refused belongs to a worker that there is, and is the one that it waits for
pub record IsAccepted (s : State) (e : Event) : Type 0 where
  pub worker : Worker
  pub here : slice_get s.workers (worker_of e) ≡ Some worker
  pub awaited : is_awaited worker.turn e ≡ true

-- an event that isn't refused is accepted
pub accepted : (s : State) (e : Event) → refusal s e ≡ None → IsAccepted s e
accepted s e h = grind arith

-- an event that is accepted isn't refused
pub not_refused : (s : State) (e : Event) → IsAccepted s e → refusal s e ≡ None
not_refused s e a = grind (arith, slice_get_within)

-- ---- with one worker

-- with one worker at most one event is accepted
pub one_worker : OneWorkerHasNoChoice
one_worker s e e' one h h' = grind arith

-- ---- a step is computed

-- what a step of a worker in this turn does is what is computed
pub does_awaited : (t : Task) (e : Event) (s s' : State) (v v' : Worker) → Does t e s s' v v'
    → is_awaited v.turn e ≡ true
does_awaited t e s s' v v' d = grind arith

-- the state after an event is computed from the turn of the event's worker
pub after_here : (t : Task) (s : State) (e : Event) (v : Worker) → slice_get s.workers (worker_of e) ≡ Some v
    → after t s e ≡ moved t s e v v.turn
after_here t s e v h = cc

-- each step is that of an event that isn't refused, and leads to the computed state
step_computed : (t : Task) (s s' : State) (e : Event) → IsStep t s e s' → (refusal s e ≡ None) × (s' ≡ after t s e)
step_computed t s s' e h = grind (arith, not_refused)

-- the step that an event makes whose turn it is
step_made : (t : Task) (s : State) (e : Event) (v : Worker) (turn : Turn) → slice_get s.workers (worker_of e) ≡ Some v
    → v.turn ≡ turn → is_awaited turn e ≡ true → IsStep t s e (moved t s e v turn)
step_made t s e v turn h is a = grind arith

-- an event that isn't refused leads to one state, which is computed; one that is refused leads to none
pub steps_computed : StepsAreComputed
steps_computed t s s' e = grind (arith, ints, step_computed t s s' e, accepted, after_here, step_made)

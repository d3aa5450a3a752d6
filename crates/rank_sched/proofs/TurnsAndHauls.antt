-- The workers that are in given turns with given hauls, and the events that they refuse.
use Rattle.rank_sched.proofs.Cited.{◌≡◌, ℕ, zero, suc, ◌<◌, ◌≤◌, true, false, List, [], ◌∷◌, length, Option, Some, None}
use Rattle.rank_sched.proofs.Cited.{refl, arith, ℤ, map, zip, slice_get, slice_set, Haul, Event, NoWorker, NotNow, Turn}
use Rattle.rank_sched.proofs.Cited.{Worker, worker_of, is_awaited, refusal, worker_with, state_of, ints}

-- ---- workers by their turns and hauls

-- the workers that are here in their turns and have these hauls
abbrev pub workers_with : List Turn → List Haul → List Worker
workers_with turns hs = map worker_with (zip turns hs)

-- there are as many workers as turns
pub workers-length : (turns : List Turn) (hs : List Haul) → length turns ≡ length hs
    → length (workers_with turns hs) ≡ length turns
workers-length [] hs e = refl
workers-length (x ∷ xs) [] e = absurd (omega (arith, e))
workers-length (x ∷ xs) (h ∷ hs) e = cc (workers-length xs hs (omega (arith, e)))

-- a worker that is there has a turn and a haul
pub record IsThere (turns : List Turn) (hs : List Haul) (w : ℕ) (turn : Turn) : Type 0 where
  pub haul : Haul
  pub own : slice_get hs w ≡ Some haul
  pub worker : slice_get (workers_with turns hs) w ≡ Some (worker_with (turn, haul))
  pub within : w < length turns

-- a worker whose turn is there is there, with its haul
pub there : (turns : List Turn) (hs : List Haul) (w : ℕ) (turn : Turn) → length turns ≡ length hs
    → slice_get turns w ≡ Some turn → IsThere turns hs w turn
there [] hs w turn e h = absurd cc
there (x ∷ xs) [] w turn e h = absurd (omega (arith, e))
there (x ∷ xs) (y ∷ hs) zero turn e h = let same : x ≡ turn = cc in
    record { haul = y; own = refl; worker = cc; within = omega arith }
there (x ∷ xs) (y ∷ hs) (suc w) turn e h =
    let rest : IsThere xs hs w turn = there xs hs w turn (omega (arith, e)) h in
    record { haul = rest.haul; own = rest.own; worker = rest.worker; within = omega (arith, rest.within) }

-- another turn changes that worker alone
pub other_turn : (turns : List Turn) (hs : List Haul) (w : ℕ) (turn : Turn) (h : Haul) → slice_get hs w ≡ Some h
    → workers_with (slice_set turns w turn) hs ≡ slice_set (workers_with turns hs) w (worker_with (turn, h))
other_turn [] hs w turn h e = refl
other_turn (x ∷ xs) [] w turn h e = absurd cc
other_turn (x ∷ xs) (y ∷ hs) zero turn h e = cc
other_turn (x ∷ xs) (y ∷ hs) (suc w) turn h e = cc (other_turn xs hs w turn h e)

-- another turn and another haul change that worker alone
pub other_both : (turns : List Turn) (hs : List Haul) (w : ℕ) (turn : Turn) (h : Haul) → length turns ≡ length hs
    → workers_with (slice_set turns w turn) (slice_set hs w h) ≡ slice_set (workers_with turns hs) w
    (worker_with (turn, h))
other_both [] hs w turn h e = refl
other_both (x ∷ xs) [] w turn h e = absurd (omega (arith, e))
other_both (x ∷ xs) (y ∷ hs) zero turn h e = refl
other_both (x ∷ xs) (y ∷ hs) (suc w) turn h e = cc (other_both xs hs w turn h (omega (arith, e)))

-- ---- which events are refused

-- an event of a worker that isn't there is refused for that
pub no_worker : (next : ℕ) (floor : Option ℤ) (turns : List Turn) (hs : List Haul) (e : Event)
    → length turns ≡ length hs → length turns ≤ worker_of e
    → refusal (state_of next floor turns hs) e ≡ Some (NoWorker (worker_of e))
no_worker next floor turns hs e same far = grind (arith, ints, workers-length turns hs same)

-- an event that its worker doesn't wait for is refused for that
pub not_now : (next : ℕ) (floor : Option ℤ) (turns : List Turn) (hs : List Haul) (e : Event) (turn : Turn)
    → length turns ≡ length hs → slice_get turns (worker_of e) ≡ Some turn → is_awaited turn e ≡ false
    → refusal (state_of next floor turns hs) e ≡ Some (NotNow (worker_of e))
not_now next floor turns hs e turn same here other =
    grind (arith, ints, there turns hs (worker_of e) turn same here, workers-length turns hs same)

-- an event that its worker waits for isn't refused
pub is_now_by : (next : ℕ) (floor : Option ℤ) (turns : List Turn) (hs : List Haul) (e : Event) (turn : Turn)
    → length turns ≡ length hs → slice_get turns (worker_of e) ≡ Some turn → is_awaited turn e ≡ true
    → refusal (state_of next floor turns hs) e ≡ None
is_now_by next floor turns hs e turn same here awaited =
    grind (arith, ints, there turns hs (worker_of e) turn same here, workers-length turns hs same)

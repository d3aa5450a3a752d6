-- Steps of a machine by its turns and hauls: which are refused, and what those that are made lead to.
use Rattle.rank_sched.proofs.Cited.{common_steps, length-set, length-replicate, slice_get_read, ◌≡◌, ℕ, zero, suc, ◌+◌}
use Rattle.rank_sched.proofs.Cited.{◌-◌, ◌*◌, ◌<◌, ◌≤◌, Bool, true, false, cond, List, [], ◌∷◌, length, length-append}
use Rattle.rank_sched.proofs.Cited.{get_or, replicate, Option, Some, None, Result, Err, IsErr, IsErrAnd, ◌≢◌, refl, sym}
use Rattle.rank_sched.proofs.Cited.{ap, ◌∙◌, arith, append-nil, ℤ, IfSome, rules, not, slice_get, slice_set}
use Rattle.rank_sched.proofs.Cited.{AllByRecursion, flat_map, IsScore, length-each_below, last_score, Record, Haul}
use Rattle.rank_sched.proofs.Cited.{Event, Claim, Look, Settle, StepFault, NoWorker, NotNow, Turn, Idle, Claimed}
use Rattle.rank_sched.proofs.Cited.{Looked, Plan, IsPlan, Task, task_of, morsels_of, Worker, State, new_worker}
use Rattle.rank_sched.proofs.Cited.{started, worker_of, is_awaited, drawn, record_of, greater_floor, floor_after}
use Rattle.rank_sched.proofs.Cited.{IsStep, all_stopped, unsettled, NumbersRise, AreSoundFrom, IsSoundState, IsSoundEnd}
use Rattle.rank_sched.proofs.Cited.{AreHaulsOf, AreSound, AreUnderFloor, new_run, is_stopped, Running, worker_with}
use Rattle.rank_sched.proofs.Cited.{state_of, IsRunning, IsAnswered, Refuses, HasSettled, IsEmptyHaul, IsSameHaul}
use Rattle.rank_sched.proofs.Cited.{claims_in, each, each-map, and_parts}
use Rattle.rank_sched.proofs.Lists.{morsels-push}
use Rattle.rank_sched.proofs.SoundSteps.{runs_sound, drawn_turn}
use Rattle.rank_sched.proofs.Ends.{rise_front, ends_sound}
use Rattle.rank_sched.proofs.PlanMade.{few_morsels}
use Rattle.rank_sched.proofs.TurnsAndHauls.{workers_with, IsThere, there, other_turn, other_both, no_worker, not_now}

-- ---- what the steps that are made lead to

module _ (t : Task) (next : ℕ) (floor : Option ℤ) (turns : List Turn) (hs : List Haul) (w : ℕ) where
  -- an idle worker that takes the next number makes a claim's step
  pub claim_step : (x : Turn) → length turns ≡ length hs → slice_get turns w ≡ Some Idle → x ≡ drawn t next
      → IsStep t (state_of next floor turns hs) (Claim w) (state_of (next + 1) floor (slice_set turns w x) hs)
  claim_step x same here e =
      let at : IsThere turns hs w Idle = there turns hs w Idle same here in
      record {
        before = worker_with (Idle, at.haul);
        after = worker_with (x, at.haul);
        here = at.worker;
        does = grind (arith, drawn_turn, append-nil);
        others = other_turn turns hs w x at.haul at.own;
      }

  -- a worker that claimed, and then has the floor beside its morsel, makes a look's step
  pub look_step : (m : ℕ) → length turns ≡ length hs → slice_get turns w ≡ Some (Claimed m)
      → IsStep t (state_of next floor turns hs) (Look w) (state_of next floor (slice_set turns w (Looked m floor)) hs)
  look_step m same here =
      let at : IsThere turns hs w (Claimed m) = there turns hs w (Claimed m) same here in
      record {
        before = worker_with (Claimed m, at.haul);
        after = worker_with (Looked m floor, at.haul);
        here = at.worker;
        does = search rules;
        others = grind (arith, other_turn);
      }

  -- a worker that looked, and then is idle with one record more, makes a settle's step
  pub settle_step : (floor' raised : Option ℤ) (m : ℕ) (seen : Option ℤ) (h h' : Haul) (r : Record)
      → length turns ≡ length hs → slice_get turns w ≡ Some (Looked m seen) → h ≡ get_or hs w h
      → r ≡ record_of t w m seen → HasSettled t h r h' → raised ≡ cond r.skipped None (last_score h'.pool)
      → floor' ≡ greater_floor floor raised → IsStep t (state_of next floor turns hs) (Settle w)
      (state_of next floor' (slice_set turns w Idle) (slice_set hs w h'))
  settle_step floor' raised m seen h h' r same here own made did up new =
      let at : IsThere turns hs w (Looked m seen) = there turns hs w (Looked m seen) same here in
      let read : Some at.haul ≡ Some h =
      sym at.own ∙ slice_get_read hs (length hs) w h refl (omega (arith, at.within, same)) own in
      let haul : at.haul ≡ h = cc in
      let after-is : floor' ≡ floor_after floor r h'.pool = search rules in
      record {
        before = worker_with (Looked m seen, h);
        after = worker_with (Idle, h');
        here = cc;
        does = grind (arith, append-nil, morsels-push);
        others = other_both turns hs w Idle h' same;
      }

-- ---- what is true of every machine stays so

-- what is true of every machine is true after a step, also of one that fails at it
pub still_running : (m : Running) (e : Event) (s' : State) (failed : Bool) → IsRunning m
    → IsStep (task_of m.plan) m.state e s' → IsRunning
    (record { plan = m.plan; guess = m.guess; state = s'; failed = failed })
still_running m e s' failed r step =
    let len : length s'.workers ≡ length m.state.workers = grind (arith, length-set) in
    let k = r.plan.asked.k in
    let wanted : 0 < m.plan.query.k = grind arith in
    record {
      plan = r.plan;
      guess = r.guess;
      some = omega (arith, len, r.some);
      limit = omega (arith, len, r.limit);
      sound = runs_sound.1 (task_of m.plan) m.guess m.state s' e wanted r.sound step;
    }

-- whether it has failed makes no difference
pub running_failed : (m : Running) (failed : Bool) → IsRunning m
    → IsRunning (record { plan = m.plan; guess = m.guess; state = m.state; failed = failed })
running_failed m failed r = search rules

-- ---- what a machine returns

-- a machine refuses an event of a worker that isn't there, and stays as it is
pub no_worker_refused : {A : Type 0} (m : Running) (next : ℕ) (floor : Option ℤ) (turns read : List Turn)
    (hs : List Haul) (e : Event) (f : StepFault) (r : Result A StepFault) → state_of next floor turns hs ≡ m.state
    → m.failed ≡ false → length turns ≡ length hs → read ≡ turns
    → (f ≡ NoWorker (worker_of e)) × (length read ≤ worker_of e) → IsErr r × IsErrAnd r (λ x. x ≡ f)
    → IsAnswered m e r m
no_worker_refused m next floor turns read hs e f r is running same e' why err =
    let far : length turns ≤ worker_of e = omega (arith, ap length e') in
    let answer : r ≡ Err (NoWorker (worker_of e)) = grind arith in
    rw answer (grind (arith, no_worker next floor turns hs e same far))

-- a machine refuses an event that the worker doesn't wait for, and stays as it is
pub not_now_refused : (m : Running) (next : ℕ) (floor : Option ℤ) (turns read : List Turn) (hs : List Haul) (e : Event)
    (turn : Turn) → state_of next floor turns hs ≡ m.state → m.failed ≡ false → length turns ≡ length hs
    → read ≡ turns → slice_get read (worker_of e) ≡ Some turn → is_awaited turn e ≡ false
    → Refuses m e (NotNow (worker_of e)) m
not_now_refused m next floor turns read hs e turn is running same e' here other =
    let there : slice_get turns (worker_of e) ≡ Some turn = rw e' at here in
    grind (arith, not_now next floor turns hs e turn same there other)

-- ---- turns that wait for other events

-- a worker that isn't idle doesn't wait for a claim
pub not_idle : (w : ℕ) (turn : Turn) → (turn ≢ Idle) → is_awaited turn (Claim w) ≡ false
not_idle w turn h = grind arith

-- a worker that hasn't claimed a morsel doesn't wait for a look
pub not_claimed : (w : ℕ) (turn : Turn) → ((m : ℕ) → turn ≢ Claimed m) → is_awaited turn (Look w) ≡ false
not_claimed w turn h = grind arith

-- a worker that hasn't looked doesn't wait for a settle
pub not_looked : (w : ℕ) (turn : Turn) → ((m : ℕ) (seen : Option ℤ) → turn ≢ Looked m seen)
    → is_awaited turn (Settle w) ≡ false
not_looked w turn h = grind arith

-- ---- a haul that finds no memory

-- a haul with the same records and pool leaves all workers as they are
same_workers : (turns : List Turn) (hs : List Haul) (w : ℕ) (h h' : Haul) → slice_get hs w ≡ Some h → IsSameHaul h h'
    → workers_with turns (slice_set hs w h') ≡ workers_with turns hs
same_workers [] hs w h h' e s = refl
same_workers (x ∷ xs) [] w h h' e s = refl
same_workers (x ∷ xs) (y ∷ hs) zero h h' e s = cc
same_workers (x ∷ xs) (y ∷ hs) (suc w) h h' e s = cc (same_workers xs hs w h h' e s)

-- running out of memory leaves the state as it was
pub same_state_of : (next : ℕ) (floor : Option ℤ) (turns : List Turn) (hs : List Haul) (w : ℕ) (turn : Turn)
    (h h' : Haul) → length turns ≡ length hs → slice_get turns w ≡ Some turn → h ≡ get_or hs w h → IsSameHaul h h'
    → state_of next floor turns (slice_set hs w h') ≡ state_of next floor turns hs
same_state_of next floor turns hs w turn h h' same here own s =
    grind (arith, common_steps, there, same_workers, slice_get_read)

-- ---- the next number is small

-- numbers that rise from a on and stay below n are at most n - a
rise_short : (n a : ℕ) (xs : List ℕ) → NumbersRise xs → AllByRecursion (λ x. x < n) xs → AllByRecursion (λ x. a ≤ x) xs
    → length xs ≤ n - a
rise_short n a [] r h k = omega arith
rise_short n a (x ∷ xs) r h k = grind (arith, rise_short n (suc x) xs r.1 h.1 r.0)

-- a worker has at most one number that it hasn't settled
one_open : (turn : Turn) → length (unsettled turn) ≤ 1
one_open turn = grind arith

module _ (t : Task) (guess : Option ℤ) where
  -- each worker has drawn at most one number more than there are morsels
  claims_few : (w : ℕ) (vs : List Worker) → t.len ≤ 1_048_576 → AreSoundFrom t guess w vs
      → length (flat_map (λ (v : Worker). v.claims) vs) ≤ 1_048_577 * length vs
  claims_few w [] few h = omega arith
  claims_few w (v ∷ vs) few h =
      let ms : List ℕ = morsels_of v.records in
      let rise : NumbersRise ms = rise_front t guess ms (unsettled v.turn) (rw h.0.settled at h.0.rise) in
      let within = each-map (λ (r : Record). r.morsel) (λ x. x < t.len) v.records h.0.within in
      let short : length ms ≤ t.len - 0 = rise_short t.len 0 ms rise within (each (λ x. 0 ≤ x) ms (λ x. omega arith)) in
      let own = ap length h.0.settled ∙ length-append ms (unsettled v.turn) in
      let all = length-append v.claims (flat_map (λ (u : Worker). u.claims) vs) in
      omega (arith, one_open v.turn, claims_few (w + 1) vs few h.1)

  -- so the next number is at most 2^20 + 1 times the number of workers
  next_few : (s : State) → t.len ≤ 1_048_576 → IsSoundState t guess s → s.next ≤ 1_048_577 * length s.workers
  next_few s few h =
      let drawn = length-each_below s.next (claims_in s.workers) h.claims in
      grind (arith, claims_few 0 s.workers few h.each)

-- so one can be added to it
pub next_small : (m : Running) → IsRunning m → m.state.next ≤ 67_108_928
next_small m r = grind (arith, next_few, few_morsels)

-- ---- the start

-- idle workers with empty hauls are workers that have done nothing
zipped : (k n : ℕ) (hs : List Haul) → length hs ≡ n → AllByRecursion (IsEmptyHaul k) hs
    → workers_with (replicate n Idle) hs ≡ replicate n (new_worker k)
zipped k zero [] e h = refl
zipped k zero (x ∷ hs) e h = absurd (omega (arith, e))
zipped k (suc n) [] e h = absurd (omega (arith, e))
zipped k (suc n) (x ∷ hs) e h = cc (zipped k n hs (omega (arith, e)) h.1)

-- idle turns and empty hauls under the guess are the state at the start
pub start_state : (p : Plan) (guess : Option ℤ) (k workers : ℕ) (turns : List Turn) (hs : List Haul)
    → k ≡ p.query.k → turns ≡ replicate workers Idle → length hs ≡ workers → AllByRecursion (IsEmptyHaul k) hs
    → state_of 0 guess turns hs ≡ started (task_of p) workers guess
start_state p guess k workers turns hs same idle len empty = grind (arith, zipped)

-- what is true of every machine is true of one at the start
pub start_running : (p : Plan) (guess : Option ℤ) (workers : ℕ) → IsPlan p → IfSome guess IsScore → 0 < workers
    → workers ≤ 64 → IsRunning (new_run p workers guess)
start_running p guess workers is ok some few =
    let len : length (replicate workers (new_worker p.query.k)) ≡ workers =
    grind (arith, length-replicate) in
    record {
      plan = is;
      guess = ok;
      some = omega (arith, len, some);
      limit = omega (arith, len, few);
      sound =
          runs_sound.0 (task_of p) workers guess;
    }

-- ---- the end

-- the hauls that a machine holds are its workers'
pub hauls_of : (next : ℕ) (floor : Option ℤ) (turns : List Turn) (hs : List Haul) → length turns ≡ length hs
    → AreHaulsOf (workers_with turns hs) hs
hauls_of next floor [] [] e = tt
hauls_of next floor [] (h ∷ hs) e = absurd (omega (arith, e))
hauls_of next floor (x ∷ xs) [] e = absurd (omega (arith, e))
hauls_of next floor (x ∷ xs) (h ∷ hs) e = grind (arith, hauls_of next floor xs hs (omega (arith, e)))

-- the hauls of the workers of a stopped machine are sound
pub stopped_sound : (m : Running) (hs : List Haul) → IsRunning m → is_stopped m ≡ true → AreHaulsOf m.state.workers hs
    → IsSoundEnd (task_of m.plan) m.state × AreSound (task_of m.plan) hs × AreUnderFloor
    (task_of m.plan) m.guess hs m.state.floor
stopped_sound m hs r e a = ends_sound (task_of m.plan) m.guess m.state hs r.some r.sound
    (and_parts (not m.failed) (all_stopped m.state.workers) e).1 a

-- A run with one worker: of each morsel a claim, a look and a settle, and then a last claim.
use Rattle.rank_sched.proofs.Cited.{rules, ◌≡◌, ℕ, ◌+◌, ◌<◌, ◌≤◌, Bool, true, false, List, [], ◌∷◌, ◌++◌, length}
use Rattle.rank_sched.proofs.Cited.{Option, Some, None, refl, ap, ◌∙◌, arith, ℤ, ◌&&◌, slice_get, slice_set, list_all}
use Rattle.rank_sched.proofs.Cited.{Haul, Answer, Event, Claim, Look, Settle, Plan, task_of, Worker, worker_of}
use Rattle.rank_sched.proofs.Cited.{is_awaited, refusal, has_stopped, all_stopped, all_records, AreSound, AreUnderFloor}
use Rattle.rank_sched.proofs.Cited.{AreHaulsOf, Running, new_run, is_stopped, Steps, IsReplayed, IsAnswer}
use Rattle.rank_sched.proofs.Cited.{IsAnswerOfCrew, AreRecordsAlone, records_in, length-set, AllZip-long}
use Rattle.rank_sched.proofs.Replays.{replayed-push}
use Rattle.rank_sched.proofs.Machines.{not_refused}

-- a machine of one worker that runs a plan under a guess, drew n numbers, and doesn't refuse this event
pub record Awaits (p : Plan) (guess : Option ℤ) (n : ℕ) (e : Event) (m : Running) : Type 0 where
  pub running : m.failed ≡ false
  pub plan : m.plan ≡ p
  pub guessed : m.guess ≡ guess
  pub one : length m.state.workers ≡ 1
  pub next : m.state.next ≡ n
  pub accepted : refusal m.state e ≡ None
  pub events : List Event
  pub replayed : IsReplayed p 1 guess events m

-- at the start it claims
pub awaits_first : (p : Plan) (guess : Option ℤ) → Awaits p guess 0 (Claim 0) (new_run p 1 guess)
awaits_first p guess = search rules

-- the first of some workers is the one that was put there
first_set : (vs : List Worker) (v : Worker) → 0 < length vs → slice_get (slice_set vs 0 v) 0 ≡ Some v
first_set [] v lt = absurd (omega arith)
first_set (w ∷ vs) v lt = refl

-- after a step it doesn't refuse the event that the worker's turn waits for
awaits_next : (p : Plan) (guess : Option ℤ) (n n' : ℕ) (e e' : Event) (m m' : Running) (v : Worker)
    → worker_of e ≡ 0 → worker_of e' ≡ 0 → Awaits p guess n e m → Steps m e m'
    → m'.state.workers ≡ slice_set m.state.workers (worker_of e) v → is_awaited v.turn e' ≡ true → m'.state.next ≡ n'
    → Awaits p guess n' e' m'
awaits_next p guess n n' e e' m m' v own own' a s set turn next =
    let put : m'.state.workers ≡ slice_set m.state.workers 0 v = cc in
    let here : slice_get m'.state.workers (worker_of e') ≡ Some v =
    grind (arith, first_set) in
    record {
      running = cc;
      plan = ap (λ (x : Running). x.plan) s.kept ∙ a.plan;
      guessed = cc;
      one = grind (arith, length-set);
      next = next;
      accepted = grind (arith, not_refused);
      events = a.events ++ e ∷ [];
      replayed = search (rules, replayed-push);
    }

module _ (p : Plan) (guess : Option ℤ) (n : ℕ) (m m' : Running) where
  -- a claim of a morsel
  pub awaits_look : n < length p.morsels → Awaits p guess n (Claim 0) m → Steps m (Claim 0) m'
      → Awaits p guess (n + 1) (Look 0) m'
  awaits_look lt a s = grind (arith, awaits_next)

  -- a look
  pub awaits_settle : Awaits p guess n (Look 0) m → Steps m (Look 0) m' → Awaits p guess n (Settle 0) m'
  awaits_settle a s = grind (arith, awaits_next)

  -- a settle
  pub awaits_claim : Awaits p guess n (Settle 0) m → Steps m (Settle 0) m' → Awaits p guess n (Claim 0) m'
  awaits_claim a s = grind (arith, awaits_next)

-- the only one of some workers
one_stopped : (vs : List Worker) (v : Worker) → length vs ≡ 1 → has_stopped v.turn ≡ true
    → list_all (λ w. has_stopped w.turn) (slice_set vs 0 v) ≡ true
one_stopped (w ∷ []) v e h = ap (λ (b : Bool). b && true) h
one_stopped vs v e h = absurd cc

-- the records of hauls are those of their workers
haul_records : (vs : List Worker) (hs : List Haul) → AreHaulsOf vs hs → all_records hs ≡ records_in vs
haul_records [] [] z = refl
haul_records (v ∷ vs) (h ∷ hs) z = cc (haul_records vs hs z.1)
haul_records vs hs z = absurd z

module _ (p : Plan) (guess : Option ℤ) (n : ℕ) (m m' : Running) (a : Awaits p guess n (Claim 0) m)
    (s : Steps m (Claim 0) m') where
  -- with the last claim all have stopped
  last_stops : length p.morsels ≤ n → all_stopped m'.state.workers ≡ true
  last_stops past = grind (arith, one_stopped)

  -- so it stops the machine
  pub last_claim : length p.morsels ≤ n → is_stopped m' ≡ true
  last_claim past = cc (last_stops past)

  module _ (hs : List Haul) where
    -- the hauls are sound hauls of the plan
    pub lone_sound : AreSound (task_of m'.plan) hs → AreSound (task_of p) hs
    lone_sound sound = search rules

    -- the answer of the one worker
    pub lone_answer : (answer : Answer) → AreHaulsOf m'.state.workers hs → AreSound (task_of m'.plan) hs
        → AreUnderFloor (task_of m'.plan) m'.guess hs m'.state.floor → IsAnswer p (all_records hs) answer
        → IsAnswerOfCrew p guess 1 answer
    lone_answer answer hauls sound under is = grind (arith, AllZip-long, length-set)

    -- its records are those of the worker's run to the end
    pub lone_records : (answer : Answer) → length p.morsels ≤ n → AreHaulsOf m'.state.workers hs
        → IsAnswer p (all_records hs) answer → AreRecordsAlone (task_of p) guess answer.records.items
    lone_records answer past hauls is =
        let whole = replayed-push p 1 guess a.events (Claim 0) m m' a.replayed s in
        grind (arith, last_stops past, haul_records m'.state.workers hs hauls)

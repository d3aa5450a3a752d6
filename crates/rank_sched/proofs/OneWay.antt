-- With one worker a run that ends stopped has one list of events and one end.
use Rattle.rank_sched.proofs.Cited.{◌≡◌, ℕ, true, false, List, [], ◌∷◌, length, Some, refl, sym, ap, ◌∙◌, subst, arith}
use Rattle.rank_sched.proofs.Cited.{slice_get, list_all, Event, Turn, Task, Worker, State, started, worker_of}
use Rattle.rank_sched.proofs.Cited.{is_awaited, IsStep, Leads, after, has_stopped, all_stopped, OneWorkerEndsOneWay}
use Rattle.rank_sched.proofs.Cited.{RecordsAloneAreOne, length-set, ints, AllPass-from_list_all, get_or_from_slice_get}
use Rattle.rank_sched.proofs.Cited.{slice_get_within}
use Rattle.rank_sched.proofs.Machines.{steps_computed, one_worker, does_awaited}

-- a worker that stopped waits for no event
stopped_waits : (turn : Turn) (e : Event) → has_stopped turn ≡ true → is_awaited turn e ≡ false
stopped_waits turn e h = grind arith

-- each of some workers has stopped, if all have
stopped_at : (vs : List Worker) (i : ℕ) (v : Worker) → list_all (λ w. has_stopped w.turn) vs ≡ true
    → slice_get vs i ≡ Some v → has_stopped v.turn ≡ true
stopped_at vs i v all e = rw (get_or_from_slice_get vs i v v e)
    at (AllPass-from_list_all (λ (w : Worker). has_stopped w.turn) vs all i v (slice_get_within vs i v e))

-- if all have stopped no step is made
none_after : (t : Task) (s s' : State) (e : Event) → all_stopped s.workers ≡ true → IsStep t s e s' → ⊥
none_after t s s' e all step =
    let a : is_awaited step.before.turn e ≡ true = does_awaited t e s s' step.before step.after step.does in
    let b : is_awaited step.before.turn e ≡ false = stopped_waits step.before.turn e
    (stopped_at s.workers (worker_of e) step.before all step.here) in
    cc

-- from one state with one worker
one_way : (t : Task) (z s s' : State) (es es' : List Event) → length z.workers ≡ 1 → Leads t z es s
    → all_stopped s.workers ≡ true → Leads t z es' s' → all_stopped s'.workers ≡ true → (es ≡ es') × (s ≡ s')
one_way t z s s' [] [] one l a l' a' = (refl, l ∙ sym l')
one_way t z s s' [] (e' ∷ es') one l a l' a' =
    absurd (none_after t z l'.0 e' (subst (λ (x : State). all_stopped x.workers ≡ true) l a) l'.1)
one_way t z s s' (e ∷ es) [] one l a l' a' =
    absurd (none_after t z l.0 e (subst (λ (x : State). all_stopped x.workers ≡ true) l' a') l.1)
one_way t z s s' (e ∷ es) (e' ∷ es') one l a l' a' =
    let c = (steps_computed t z l.0 e).0 l.1 in
    let c' = (steps_computed t z l'.0 e').0 l'.1 in
    let same : e ≡ e' = one_worker z e e' one c.0 c'.0 in
    let mid : l.0 ≡ l'.0 = c.1 ∙ ap (after t z) same ∙ sym c'.1 in
    let still : length l.0.workers ≡ 1 = ap length l.1.others ∙ length-set z.workers (worker_of e) l.1.after ∙ one in
    let rest = one_way t l.0 s s' es es' still l.2 a (subst (λ (x : State). Leads t x es' s') (sym mid) l'.2) a' in
    (ap (λ (x : Event). x ∷ es) same ∙ ap (λ (xs : List Event). e' ∷ xs) rest.0, rest.1)

-- from the start
pub ends_one_way : OneWorkerEndsOneWay
ends_one_way t guess es es' s s' l a l' a' = one_way t (started t 1 guess) s s' es es' refl l a l' a'

-- so its records are one list
pub one_list : RecordsAloneAreOne
one_list t guess rs rs' a b =
    grind (arith, ints, ends_one_way t guess a.events b.events a.state b.state a.reached a.stopped b.reached b.stopped)

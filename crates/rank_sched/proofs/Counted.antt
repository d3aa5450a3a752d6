-- How many events a run has.
use Rattle.rank_sched.proofs.Cited.{rules, ◌≡◌, ℕ, zero, suc, ◌+◌, ◌<◌, Bool, true, cond, List, [], ◌∷◌, ◌++◌, length}
use Rattle.rank_sched.proofs.Cited.{length-append, replicate, Option, refl, ◌∙◌, arith, ℤ, count_by, sum_by, flat_map}
use Rattle.rank_sched.proofs.Cited.{list_all, length-map, sum_by-cons, sum_by-append, length-each_below, Event, Turn}
use Rattle.rank_sched.proofs.Cited.{Task, morsels_of, Worker, State, new_worker, started, worker_of, Does, IsStep}
use Rattle.rank_sched.proofs.Cited.{Leads, has_stopped, open_exchange, IsSoundState, IsSoundEnd, is_claim, is_look}
use Rattle.rank_sched.proofs.Cited.{is_settle, EventsAreCounted, and_parts}
use Rattle.rank_sched.proofs.Lists.{At, at}
use Rattle.rank_sched.proofs.SoundSteps.{runs_sound}
use Rattle.rank_sched.proofs.Ends.{end_sound}

-- how many records some workers have
abbrev made : List Worker → ℕ
made vs = sum_by (λ v. length v.records) vs

-- how many of them have looked and not settled yet
abbrev opened : List Worker → ℕ
opened vs = sum_by (λ v. length (open_exchange v.turn)) vs

-- a total over workers is that of those before, of the one between, and of those after
by_parts : (f : Worker → ℕ) (front : List Worker) (v : Worker) (behind : List Worker)
    → sum_by f (front ++ v ∷ behind) ≡ sum_by f front + (f v + sum_by f behind)
by_parts f front v behind = simp (sum_by-append, sum_by-cons)

-- what a run counts
pub record Counted (s : State) (es : List Event) (s' : State) : Type 0 where
  pub claims : s'.next ≡ s.next + count_by is_claim es
  pub looks : made s'.workers + opened s'.workers ≡ made s.workers + opened s.workers + count_by is_look es
  pub settles : made s'.workers ≡ made s.workers + count_by is_settle es
  pub all : length es ≡ count_by is_claim es + (count_by is_look es + count_by is_settle es)
  pub workers : length s'.workers ≡ length s.workers

-- the first event counts apart from the rest
count-cons : (p : Event → Bool) (e : Event) (es : List Event) → count_by p (e ∷ es) ≡ cond (p e) 1 0 + count_by p es
count-cons p e es = simp sum_by-cons

-- a claim draws one number, a look opens one turn, and a settle closes one with a record
does_count : (t : Task) (s s' : State) (e : Event) (v v' : Worker) (front behind : List Worker) → Does t e s s' v v'
    → s.workers ≡ front ++ v ∷ behind → s'.workers ≡ front ++ v' ∷ behind → Counted s (e ∷ []) s'
does_count t s s' e v v' front behind d old new = grind (arith, length-append, by_parts, count-cons)

-- so each step counts as the kind of its event
step_counts : (t : Task) (s s' : State) (e : Event) → IsStep t s e s' → Counted s (e ∷ []) s'
step_counts t s s' e h =
    let a : At s.workers (worker_of e) h.before = at s.workers (worker_of e) h.before h.here in
    does_count t s s' e h.before h.after a.front a.behind h.does a.parts (h.others ∙ a.put h.after)

-- the numbers drawn, looks and records of a run are as many as its events of each kind
run_counted : (t : Task) (s s' : State) (es : List Event) → Leads t s es s' → Counted s es s'
run_counted t s s' [] h = search rules
run_counted t s s' (e ∷ es) h =
    let one : Counted s (e ∷ []) h.0 = step_counts t s h.0 e h.1 in
    let rest : Counted h.0 es s' = run_counted t h.0 s' es h.2 in
    record {
      claims = search (rules, count-cons);
      looks = search (rules, count-cons);
      settles = search (rules, count-cons);
      all = search (rules, count-cons);
      workers = rest.workers ∙ one.workers;
    }

-- a run stays sound
pub run_sound : (t : Task) (guess : Option ℤ) (s s' : State) (es : List Event) → 0 < t.k → IsSoundState t guess s
    → Leads t s es s' → IsSoundState t guess s'
run_sound t guess s s' [] some sound h = search rules
run_sound t guess s s' (e ∷ es) some sound h =
    run_sound t guess h.0 s' es some (runs_sound.1 t guess s h.0 e some sound h.1) h.2

-- workers that have done nothing have no records and no open looks
new_made : (k n : ℕ) → (made (replicate n (new_worker k)) ≡ 0) × (opened (replicate n (new_worker k)) ≡ 0) ×
    (length (replicate n (new_worker k)) ≡ n)
new_made k zero = (refl, refl, refl)
new_made k (suc n) = grind (arith, new_made k n)

-- a worker that has stopped has no look open
closed : (turn : Turn) → has_stopped turn ≡ true → length (open_exchange turn) ≡ 0
closed turn e = grind arith

-- once all workers have stopped, no look is open
none_open : (vs : List Worker) → list_all (λ v. has_stopped v.turn) vs ≡ true → opened vs ≡ 0
none_open [] e = refl
none_open (v ∷ vs) e =
    let both = and_parts (has_stopped v.turn) (list_all (λ (u : Worker). has_stopped u.turn) vs) e in
    let here = sum_by-cons (λ (u : Worker). length (open_exchange u.turn)) v vs in
    omega (arith, closed v.turn both.0, none_open vs both.1)

-- the records are as many as their morsels
made_morsels : (vs : List Worker) → length (flat_map (λ (v : Worker). morsels_of v.records) vs) ≡ made vs
made_morsels [] = refl
made_morsels (v ∷ vs) = simp (length-append, length-map, sum_by-cons, made_morsels vs)

-- events that end stopped are a claim for each morsel and each worker, and a look and a settle for each morsel
pub events_counted : EventsAreCounted
events_counted t workers guess es s some_k some reached stopped =
    let start = new_made t.k workers in
    let c : Counted (started t workers guess) es s = run_counted t (started t workers guess) s es reached in
    let sound : IsSoundState t guess s = run_sound t guess (started t workers guess) s es some_k
    (runs_sound.0 t workers guess) reached in
    let count : length s.workers ≡ workers = c.workers ∙ start.2 in
    let end : IsSoundEnd t s = grind (arith, end_sound) in
    let records : made s.workers ≡ t.len = cc (made_morsels s.workers, length-each_below t.len _ end.once) in
    let none : opened s.workers ≡ 0 = none_open s.workers stopped in
    let claims : count_by is_claim es ≡ t.len + workers = omega arith in
    let settles : count_by is_settle es ≡ t.len = omega arith in
    let looks : count_by is_look es ≡ t.len = search rules in
    record { claims = claims; looks = looks; settles = settles; all = omega arith }

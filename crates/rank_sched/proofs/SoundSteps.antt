-- The state of a run is sound at the start, and each step keeps it so.
use Rattle.rank_sched.proofs.Cited.{rules, ◌≡◌, ℕ, zero, suc, ◌+◌, ◌<◌, inl, List, [], ◌∷◌, ◌++◌, length, replicate}
use Rattle.rank_sched.proofs.Cited.{Option, Some, None, refl, sym, ap, ◌∙◌, subst, append-nil, arith, ℤ, option_to_list}
use Rattle.rank_sched.proofs.Cited.{All, flat_map-append, IfSome, fold, slice_set, AllByRecursion, All-nil, All-same}
use Rattle.rank_sched.proofs.Cited.{All-weaker, recursion_from_All, times, times_below, IsAtLeast, IsGuessOrRaised}
use Rattle.rank_sched.proofs.Cited.{IsFloorOf, times_below-suc, all_below, times-append, taken, holds-fold, size-fold}
use Rattle.rank_sched.proofs.Cited.{Record, Event, Claim, Look, Settle, Idle, Looked, Task, Exchange, pool_of}
use Rattle.rank_sched.proofs.Cited.{scanned_for, scanned, exchange, exchanges, seen_in, raised_in, SeeUpward, Worker}
use Rattle.rank_sched.proofs.Cited.{State, new_worker, started, drawn, record_of, greater_floor, floor_after, worker_of}
use Rattle.rank_sched.proofs.Cited.{IsClaim, IsLook, IsSettle, Does, IsStep, unsettled, IsTurnOf, open_exchange}
use Rattle.rank_sched.proofs.Cited.{exchanges_of, all_exchanges, IsSoundWorker, AreSoundFrom, claims_in, IsSoundState}
use Rattle.rank_sched.proofs.Cited.{RunsAreSound, Contains-push, take-nil}
use Rattle.rank_sched.proofs.Lists.{All-middle, All-between, each-append, one_there, rise-push, morsels-push}
use Rattle.rank_sched.proofs.Lists.{scanned-push, exchanges-push, seen_in-append, raised_in-append, upward-push}
use Rattle.rank_sched.proofs.Lists.{upward-last, At, at, last_is_kth}
use Rattle.rank_sched.proofs.Totals.{times-cons}
use Rattle.rank_sched.proofs.Floors.{Under, greater_none, greater_own, known-more, floor-more}

-- a number that was drawn isn't settled, has seen no floor, and is a morsel or past the last one
pub drawn_turn : (t : Task) (n : ℕ)
    → (unsettled (drawn t n) ≡ n ∷ []) × (open_exchange (drawn t n) ≡ []) × IsTurnOf t.len (drawn t n)
drawn_turn t n = search rules

module _ (t : Task) (guess : Option ℤ) where
  -- another worker in the place of one
  replaced : (w : ℕ) (front : List Worker) (v v' : Worker) (behind : List Worker)
      → (IsSoundWorker t guess (w + length front) v → IsSoundWorker t guess (w + length front) v')
      → AreSoundFrom t guess w (front ++ v ∷ behind) → AreSoundFrom t guess w (front ++ v' ∷ behind)
  replaced w [] v v' behind f h = search rules
  replaced w (u ∷ us) v v' behind f h =
      let same : w + length (u ∷ us) ≡ w + 1 + length us = omega arith in (
        h.0,
        replaced (w + 1) us v v' behind (λ k. rw same at (f (subst (λ n. IsSoundWorker t guess n v) (sym same) k))) h.1,
      )

  -- the scores that a state's workers raised, by parts
  raised_parts : (vs front : List Worker) (v : Worker) (behind : List Worker) → vs ≡ front ++ v ∷ behind
      → raised_in (all_exchanges t vs) ≡ raised_in (all_exchanges t front) ++
      (raised_in (exchanges_of t v) ++ raised_in (all_exchanges t behind))
  raised_parts vs front v behind e = simp (e, flat_map-append)

  -- the floors that a state's workers saw, by parts
  seen_parts : (vs front : List Worker) (v : Worker) (behind : List Worker) → vs ≡ front ++ v ∷ behind
      → seen_in (all_exchanges t vs) ≡ seen_in (all_exchanges t front) ++
      (seen_in (exchanges_of t v) ++ seen_in (all_exchanges t behind))
  seen_parts vs front v behind e = simp (e, flat_map-append)

  -- how often a number was claimed, by parts
  claims_parts : (x : ℕ) (vs front : List Worker) (v : Worker) (behind : List Worker) → vs ≡ front ++ v ∷ behind
      → times x (claims_in vs) ≡ times x (claims_in front) + (times x v.claims + times x (claims_in behind))
  claims_parts x vs front v behind e = simp (e, flat_map-append, times-append)

  -- what a step of a worker adds: it draws the numbers from next on, sees known scores, and may raise one
  record Grows (s s' : State) (v v' : Worker) : Type 0 where
    saw : List ℤ
    up : Option ℤ
    claims : (x : ℕ) → times x v'.claims + times_below x s.next ≡ times x v.claims + times_below x s'.next
    seen : seen_in (exchanges_of t v') ≡ seen_in (exchanges_of t v) ++ saw
    raised : raised_in (exchanges_of t v') ≡ raised_in (exchanges_of t v) ++ option_to_list up
    floor : s'.floor ≡ greater_floor s.floor up
    known : All (IsGuessOrRaised guess (raised_in (all_exchanges t s.workers))) saw

  -- a worker that grows and stays sound keeps the state sound
  grows_keeps : (s s' : State) (front behind : List Worker) (v v' : Worker) → s.workers ≡ front ++ v ∷ behind
      → s'.workers ≡ front ++ v' ∷ behind → Grows s s' v v' → IsSoundState t guess s
      → ((w : ℕ) → w ≡ length front → IsSoundWorker t guess w v → IsSoundWorker t guess w v')
      → IsSoundState t guess s'
  grows_keeps s s' front behind v v' old new g h keeps =
      let F : List ℤ = raised_in (all_exchanges t front) in
      let V : List ℤ = raised_in (exchanges_of t v) in
      let B : List ℤ = raised_in (all_exchanges t behind) in
      let S : List ℤ = seen_in (all_exchanges t front) in
      let X : List ℤ = seen_in (exchanges_of t v) in
      let E : List ℤ = seen_in (all_exchanges t behind) in
      let raised_old = raised_parts s.workers front v behind old in
      let seen_old = seen_parts s.workers front v behind old in
      let raised_new : raised_in (all_exchanges t s'.workers) ≡ F ++ ((V ++ option_to_list g.up) ++ B) =
      raised_parts s'.workers front v' behind new ∙ ap (λ (l : List ℤ). F ++ (l ++ B)) g.raised in
      let seen_new : seen_in (all_exchanges t s'.workers) ≡ S ++ ((X ++ g.saw) ++ E) =
      seen_parts s'.workers front v' behind new ∙ ap (λ (l : List ℤ). S ++ (l ++ E)) g.seen in
      let K : ℤ → Type 0 = IsGuessOrRaised guess (raised_in (all_exchanges t s.workers)) in
      let K' : ℤ → Type 0 = IsGuessOrRaised guess (raised_in (all_exchanges t s'.workers)) in
      let all : All K (seen_in (all_exchanges t s'.workers)) = All-same K _ _ seen_new
      (All-between K S X g.saw E (All-same K _ _ (sym seen_old) h.seen) g.known) in
      record {
        claims = λ x.
            let before = claims_parts x s.workers front v behind old in
            let after = claims_parts x s'.workers front v' behind new in
            omega (arith, g.claims x, h.claims x);
        each = rw new (replaced 0 front v v' behind (keeps (0 + length front) (omega arith)) (rw old at h.each));
        floor = rw (raised_new, g.floor) (floor-more guess s.floor g.up F V B (rw raised_old at h.floor));
        seen = All-weaker K K' (λ z. rw (raised_old, raised_new) (known-more guess F V (option_to_list g.up) B z))
            (seen_in (all_exchanges t s'.workers)) all;
      }

  -- ---- a claim

  -- drawing a number adds no turn
  turns_drew : (s s' : State) (v v' : Worker) → IsClaim t s s' v v' → exchanges_of t v' ≡ exchanges_of t v
  turns_drew s s' v v' c = cc ((drawn_turn t s.next).1)

  -- a sound worker that draws a number above all its others stays sound
  claim_sound : (w : ℕ) (s s' : State) (v v' : Worker) → IsClaim t s s' v v'
      → AllByRecursion (λ y. y < s.next) v.claims → IsSoundWorker t guess w v → IsSoundWorker t guess w v'
  claim_sound w s s' v v' c below h = grind (arith, rise-push, append-nil, drawn_turn t s.next, turns_drew)

  -- a claim draws the next number
  claim_grows : (s s' : State) (v v' : Worker) → IsClaim t s s' v v' → Grows s s' v v'
  claim_grows s s' v v' c =
      let turns = turns_drew s s' v v' c in
      record {
        saw = [];
        up = None;
        claims = λ x.
            let more = ap (times x) c.claims ∙ times-append x v.claims (s.next ∷ []) in
            omega (arith, times-cons x s.next [], times_below-suc x s.next s'.next c.next);
        seen = ap seen_in turns ∙ sym (append-nil (seen_in (exchanges_of t v)));
        raised = ap raised_in turns ∙ sym (append-nil (raised_in (exchanges_of t v)));
        floor = c.floor ∙ sym (greater_none s.floor);
        known = All-nil _;
      }

  -- ---- a look

  -- the open turn
  looking : Option ℤ → Exchange
  looking floor = record { seen = floor; raised = None }

  -- seeing the floor opens a turn
  turns_saw : (s s' : State) (v v' : Worker) → IsLook s s' v v'
      → exchanges_of t v' ≡ exchanges_of t v ++ looking s.floor ∷ []
  unfolding looking
  turns_saw s s' v v' l = cc (append-nil (exchanges t [] v.records))

  -- a sound worker that sees a floor of at least the guess, and of all that it saw and raised, stays sound
  look_sound : (w : ℕ) (s s' : State) (v v' : Worker) → IsLook s s' v v'
      → IsAtLeast s.floor (option_to_list guess) → IsAtLeast s.floor (seen_in (exchanges_of t v))
      → IsAtLeast s.floor (raised_in (exchanges_of t v)) → IsSoundWorker t guess w v → IsSoundWorker t guess w v'
  unfolding looking
  look_sound w s s' v v' l g seen up h =
      let upward : SeeUpward (option_to_list guess) (exchanges_of t v') = rw (turns_saw s s' v v' l)
      (upward-push (option_to_list guess) (exchanges_of t v) (looking s.floor) h.upward g seen up) in
      grind arith

  -- a look sees the floor
  look_grows : (s s' : State) (v v' : Worker) → IsLook s s' v v' → IsSoundState t guess s → Grows s s' v v'
  unfolding looking
  look_grows s s' v v' l h = record {
    saw = option_to_list s.floor;
    up = None;
    claims = grind arith;
    seen = simp (turns_saw s s' v v' l, seen_in-append, append-nil);
    raised = simp (turns_saw s s' v v' l, raised_in-append, append-nil);
    floor = l.floor ∙ sym (greater_none s.floor);
    known = one_there _ s.floor h.floor.one_of_them;
  }

  -- a known score is at most the floor
  pub known_below : (raised : List ℤ) (floor : Option ℤ) → IsFloorOf guess raised floor → (x : ℤ)
      → IsGuessOrRaised guess raised x → Under floor x
  known_below raised floor f x = grind (arith, Contains-push)

  -- ---- a settle

  -- its pool has the best of all that it scanned, the record's candidates among them
  pool_did : (v : Worker) (r : Record) → v.pool ≡ pool_of t v.records
      → fold taken v.pool (scanned_for t r) ≡ pool_of t (v.records ++ r ∷ [])
  pool_did v r e = grind (arith, size-fold, holds-fold, scanned-push)

  -- the turn that was settled
  done : Worker → Record → Exchange
  done v r = exchange t (scanned t v.records) r

  -- the last turn of a worker that looked is open
  turns_looked : (v : Worker) (m : ℕ) (seen : Option ℤ) → v.turn ≡ Looked m seen
      → exchanges_of t v ≡ exchanges t [] v.records ++ looking seen ∷ []
  unfolding looking
  turns_looked v m seen e = cc

  -- settling closes the open turn
  turns_did : (v v' : Worker) (r : Record) → v'.turn ≡ Idle → v'.records ≡ v.records ++ r ∷ []
      → exchanges_of t v' ≡ exchanges t [] v.records ++ done v r ∷ []
  unfolding done
  turns_did v v' r e f = grind (arith, append-nil, exchanges-push)

  -- the floor becomes the greater of itself and the score that was raised
  floor_did : (v : Worker) (r : Record) (floor : Option ℤ) → 0 < t.k → v.pool ≡ pool_of t v.records
      → floor_after floor r (fold taken v.pool (scanned_for t r)) ≡ greater_floor floor (done v r).raised
  unfolding done
  floor_did v r floor some e = grind (arith, pool_did, last_is_kth, scanned-push)

  -- a sound worker that settles stays sound
  settle_sound : (w : ℕ) (s s' : State) (v v' : Worker) → IsSettle t w s s' v v' → IsSoundWorker t guess w v
      → IsSoundWorker t guess w v'
  unfolding done looking
  settle_sound w s s' v v' d h =
      let r : Record = record_of t w d.morsel d.seen in
      record {
        rise = rw d.claims h.rise;
        named = grind (arith, each-append);
        settled = grind (arith, append-nil, morsels-push);
        within = grind (arith, each-append);
        turn = rw d.turn tt;
        pool = d.pool ∙ pool_did v r h.pool ∙ ap (pool_of t) (sym d.records);
        skips = grind (arith, each-append);
        upward = rw (turns_did v v' r d.turn d.records) (upward-last (option_to_list guess) (exchanges t [] v.records)
            (looking d.seen) (done v r) refl (rw (turns_looked v d.morsel d.seen d.looked) at h.upward));
      }

  -- a settle raises the score of its turn, if there is one
  settle_grows : (w : ℕ) (s s' : State) (v v' : Worker) → 0 < t.k → IsSettle t w s s' v v'
      → v.pool ≡ pool_of t v.records → Grows s s' v v'
  unfolding done looking
  settle_grows w s s' v v' some d own =
      let r : Record = record_of t w d.morsel d.seen in
      let turns = turns_did v v' r d.turn d.records in
      let before = turns_looked v d.morsel d.seen d.looked in
      record {
        saw = [];
        up = (done v r).raised;
        claims = grind arith;
        seen = simp (turns, before, seen_in-append, append-nil);
        raised = simp (turns, before, raised_in-append, append-nil);
        floor = d.floor ∙ ap (floor_after s.floor r) d.pool ∙ floor_did v r s.floor some own;
        known = All-nil _;
      }

  -- ---- a step

  -- the worker at a place is sound
  worker_at : (w : ℕ) (front : List Worker) (v : Worker) (behind : List Worker)
      → AreSoundFrom t guess w (front ++ v ∷ behind) → IsSoundWorker t guess (w + length front) v
  worker_at w [] v behind h = search rules
  worker_at w (u ∷ us) v behind h = grind (arith, worker_at (w + 1) us v behind h.1)

  -- a sound worker among those of a sound state claimed less than next, and its floors are at most the state's
  record IsBelow (s : State) (v : Worker) : Type 0 where
    claims : AllByRecursion (λ y. y < s.next) v.claims
    seen : IsAtLeast s.floor (seen_in (exchanges_of t v))
    raised : IsAtLeast s.floor (raised_in (exchanges_of t v))

  -- each worker of a sound state is such
  is_below : (s : State) (front : List Worker) (v : Worker) (behind : List Worker) → s.workers ≡ front ++ v ∷ behind
      → IsSoundState t guess s → IsBelow s v
  is_below s front v behind e h = record {
    claims = recursion_from_All (λ y. y < s.next) v.claims (All-middle (λ y. y < s.next) (claims_in front) v.claims
        (claims_in behind) (All-same (λ y. y < s.next) _ _ (sym (grind (arith, flat_map-append)))
        (all_below s.next (claims_in s.workers) h.claims)));
    seen = All-middle (Under s.floor) (seen_in (all_exchanges t front)) (seen_in (exchanges_of t v))
        (seen_in (all_exchanges t behind)) (All-same (Under s.floor) _ _ (sym (seen_parts s.workers front v behind e))
        (All-weaker _ (Under s.floor) (known_below _ s.floor h.floor) _ h.seen));
    raised = All-middle (Under s.floor) (raised_in (all_exchanges t front)) (raised_in (exchanges_of t v))
        (raised_in (all_exchanges t behind)) (All-same (Under s.floor) _ _
        (sym (raised_parts s.workers front v behind e)) h.floor.raised_below);
  }

  -- what an event does keeps the state sound
  does_keeps : (s s' : State) (e : Event) (v v' : Worker) → 0 < t.k → At s.workers (worker_of e) v
      → s'.workers ≡ slice_set s.workers (worker_of e) v' → Does t e s s' v v' → IsSoundState t guess s
      → IsSoundState t guess s'
  does_keeps s s' (Claim w) v v' some a put d h = grows_keeps s s' a.front a.behind v v' a.parts (put ∙ a.put v')
      (claim_grows s s' v v' d) h
      (λ n at. claim_sound n s s' v v' d (is_below s a.front v a.behind a.parts h).claims)
  does_keeps s s' (Look w) v v' some a put d h =
      let low = is_below s a.front v a.behind a.parts h in
      grows_keeps s s' a.front a.behind v v' a.parts (put ∙ a.put v') (look_grows s s' v v' d h) h
      (λ n at. look_sound n s s' v v' d h.floor.guess_below low.seen low.raised)
  does_keeps s s' (Settle w) v v' some a put d h =
      let own = worker_at 0 a.front v a.behind (rw a.parts at h.each) in
      grows_keeps s s' a.front a.behind v v' a.parts (put ∙ a.put v') (settle_grows w s s' v v' some d own.pool) h
      (λ n at. settle_sound n s s' v v' (subst (λ m. IsSettle t m s s' v v') (sym (at ∙ a.place)) d))

  -- each step keeps the state sound
  step_keeps : (s s' : State) (e : Event) → 0 < t.k → IsSoundState t guess s → IsStep t s e s'
      → IsSoundState t guess s'
  step_keeps s s' e some h step = does_keeps s s' e step.before step.after some
      (at s.workers (worker_of e) step.before step.here) step.others step.does h

  -- ---- the start

  -- workers that have done nothing are sound
  new_from : (w n : ℕ) → AreSoundFrom t guess w (replicate n (new_worker t.k))
  new_from w zero = tt
  new_from w (suc n) = grind (arith, take-nil, new_from (w + 1) n)

  -- they have drawn no numbers, and have had no turns
  nothing_done : (n : ℕ) → (claims_in (replicate n (new_worker t.k)) ≡ [])
      × (all_exchanges t (replicate n (new_worker t.k)) ≡ [])
  nothing_done zero = (refl, refl)
  nothing_done (suc n) = nothing_done n

  -- a floor that is the guess is a known score
  itself : (o : Option ℤ) → IfSome o (IsGuessOrRaised o [])
  itself None = tt
  itself (Some x) = inl refl

  -- if the next number is the first, none was drawn
  none_times : (x : ℕ) → times x [] ≡ times_below x 0
  none_times x = search rules

  -- the start is sound
  start_sound : (workers : ℕ) → IsSoundState t guess (started t workers guess)
  start_sound workers =
      grind (arith, nothing_done workers, none_times, new_from, itself, greater_own None guess)

-- the start is sound, and a step keeps it so
pub runs_sound : RunsAreSound
runs_sound = search (rules, start_sound, step_keeps)

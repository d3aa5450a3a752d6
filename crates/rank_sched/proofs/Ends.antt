-- A run in which all workers have stopped: its records, its hauls, and how many events it had.
use Rattle.rank_sched.proofs.Cited.{◌≡◌, ℕ, ◌+◌, ◌<◌, ◌≤◌, true, false, List, [], ◌∷◌, ◌++◌, length, length-append}
use Rattle.rank_sched.proofs.Cited.{Option, refl, sym, ap, ◌∙◌, append-nil, arith, ℤ, option_to_list, All, common_steps}
use Rattle.rank_sched.proofs.Cited.{nat_lt, flat_map, list_all, AllByRecursion, map-append, All-from_recursion}
use Rattle.rank_sched.proofs.Cited.{All-append, All-nil, times, times_below, HasEachBelow, times_below-yes, all_below}
use Rattle.rank_sched.proofs.Cited.{length-each_below, times-none_below, Record, Haul, Turn, Task, Exchange, morsels_of}
use Rattle.rank_sched.proofs.Cited.{exchanges, SeeUpward, Worker, State, has_stopped, all_stopped, NumbersRise}
use Rattle.rank_sched.proofs.Cited.{unsettled, IsTurnOf, open_exchange, exchanges_of, all_exchanges, AreSoundFrom}
use Rattle.rank_sched.proofs.Cited.{IsSoundState, IsSoundEnd, all_records, exchanges_in, turns_of, AreHaulsFrom}
use Rattle.rank_sched.proofs.Cited.{EndsAreSound, AreHaulsOf, each-map, and_parts}
use Rattle.rank_sched.proofs.Lists.{each-append, All-left, All-right}

-- the morsels of all records of some workers
abbrev all_morsels : List Worker → List ℕ
all_morsels vs = flat_map (λ v. morsels_of v.records) vs

-- the numbers that these workers drew and haven't settled
abbrev lasts : List Worker → List ℕ
lasts vs = flat_map (λ v. unsettled v.turn) vs

module _ (t : Task) (guess : Option ℤ) where
  -- claims are settled or not
  claims_split : (x w : ℕ) (vs : List Worker) → AreSoundFrom t guess w vs
      → times x (flat_map (λ (v : Worker). v.claims) vs) ≡ times x (all_morsels vs) + times x (lasts vs)
  claims_split x w [] h = refl
  claims_split x w (v ∷ vs) h = grind (arith, common_steps, claims_split x (w + 1) vs h.1)

  -- so there are as many claims as settled and unsettled numbers together
  lengths_split : (w : ℕ) (vs : List Worker) → AreSoundFrom t guess w vs
      → length (flat_map (λ (v : Worker). v.claims) vs) ≡ length (all_morsels vs) + length (lasts vs)
  lengths_split w [] h = refl
  lengths_split w (v ∷ vs) h = grind (arith, length-append, lengths_split (w + 1) vs h.1)

  -- sound workers record nothing but morsels of the plan
  all_within : (w : ℕ) (vs : List Worker) → AreSoundFrom t guess w vs
      → AllByRecursion (λ x. x < t.len) (all_morsels vs)
  all_within w [] h = tt
  all_within w (v ∷ vs) h = each-append (λ x. x < t.len) (morsels_of v.records) (all_morsels vs)
      (each-map (λ (r : Record). r.morsel) (λ x. x < t.len) v.records h.0.within) (all_within (w + 1) vs h.1)

  -- what a stopped worker hasn't settled is one number past the last morsel, and no floor is open
  pub record HasEnded (turn : Turn) : Type 0 where
    pub past : AllByRecursion (λ x. t.len ≤ x) (unsettled turn)
    pub one : length (unsettled turn) ≡ 1
    pub closed : open_exchange turn ≡ []

  -- a sound worker that has stopped is left with one number past the last morsel, and with no open look
  ended : (turn : Turn) → has_stopped turn ≡ true → IsTurnOf t.len turn → HasEnded turn
  ended turn e h = grind arith

  -- once all have stopped, the numbers left are one for each worker, all past the last morsel, and no look is open
  lasts_past : (w : ℕ) (vs : List Worker) → AreSoundFrom t guess w vs → list_all (λ v. has_stopped v.turn) vs ≡ true
      → AllByRecursion (λ x. t.len ≤ x) (lasts vs) × (length (lasts vs) ≡ length vs) ×
      (all_exchanges t vs ≡ flat_map (λ v. exchanges t [] v.records) vs)
  lasts_past w [] h e = (tt, refl, refl)
  lasts_past w (v ∷ vs) h e =
      let stop = and_parts (has_stopped v.turn) (list_all (λ (u : Worker). has_stopped u.turn) vs) e in
      let end : HasEnded v.turn = ended v.turn stop.0 h.0.turn in
      let rest = lasts_past (w + 1) vs h.1 stop.1 in (
        each-append (λ x. t.len ≤ x) (unsettled v.turn) (lasts vs) end.past rest.0,
        omega (arith, length-append (unsettled v.turn) (lasts vs)),
        ap (λ (l : List Exchange). (exchanges t [] v.records ++ l) ++ all_exchanges t vs) end.closed
            ∙ ap (λ (l : List Exchange). l ++ all_exchanges t vs) (append-nil (exchanges t [] v.records))
            ∙ ap (λ (l : List Exchange). exchanges t [] v.records ++ l) rest.2,
      )

  -- a number at or past n that is drawn
  some_past : (n next : ℕ) (ls : List ℕ) → 0 < length ls → AllByRecursion (λ x. n ≤ x) ls → All (λ x. x < next) ls
      → n < next
  some_past n next ls some h b = grind (arith, common_steps)

  -- a number that isn't below n is nowhere among numbers below n
  not_there : (n x : ℕ) (ms : List ℕ) → AllByRecursion (λ y. y < n) ms → n ≤ x → times x ms ≡ 0
  not_there n x [] h le = refl
  not_there n x (m ∷ ms) h le = grind (arith, not_there n x ms h.1 le)

  -- each claim is below next
  lasts_below : (w next : ℕ) (vs : List Worker) → AreSoundFrom t guess w vs
      → All (λ x. x < next) (flat_map (λ (v : Worker). v.claims) vs) → All (λ x. x < next) (lasts vs)
  lasts_below w next [] h b = All-nil (λ x. x < next)
  lasts_below w next (v ∷ vs) h b =
      let P : ℕ → Type 0 = λ x. x < next in
      let own : All P v.claims = All-left P v.claims (flat_map (λ (u : Worker). u.claims) vs) b in
      All-append P (unsettled v.turn) (lasts vs) (All-right P (morsels_of v.records) (unsettled v.turn)
      (rw h.0.settled at own)) (lasts_below (w + 1) next vs h.1
      (All-right P v.claims (flat_map (λ (u : Worker). u.claims) vs) b))

  -- once all have stopped, each morsel has one record
  pub end_sound : (s : State) → 0 < length s.workers → IsSoundState t guess s → all_stopped s.workers ≡ true
      → IsSoundEnd t s
  end_sound s some h e =
      let vs : List Worker = s.workers in
      let past = lasts_past 0 vs h.each e in
      let below : All (λ x. x < s.next) (flat_map (λ (v : Worker). v.claims) vs) =
      grind (arith, all_below) in
      let far : t.len < s.next = some_past t.len s.next (lasts vs) (omega arith) past.0
      (lasts_below 0 s.next vs h.each below) in
      let once : HasEachBelow t.len (all_morsels vs) =
      λ x. elim (nat_lt x t.len) as (λ b. nat_lt x t.len ≡ b → times x (all_morsels vs) ≡ times_below x t.len) [
        | true ↦ λ k.
            let low : x < t.len = grind arith in
            let none : times x (lasts vs) ≡ 0 = times-none_below t.len x (lasts vs)
            (All-from_recursion (λ y. t.len ≤ y) (lasts vs) past.0) low in
            let drawn = times_below-yes x s.next (omega arith) in
            omega (arith, claims_split x 0 vs h.each, times_below-yes x t.len low)
        | false ↦ λ k.
            let high : t.len ≤ x = grind arith in
            let none : times_below x t.len ≡ 0 = grind arith in
            not_there t.len x (all_morsels vs) (all_within 0 vs h.each) high ∙ sym none
      ] refl in
      let claimed = length-each_below s.next (flat_map (λ (v : Worker). v.claims) vs) h.claims in
      record { once = once; next = cc (lengths_split 0 vs h.each, length-each_below t.len (all_morsels vs) once) }

  -- ---- hauls

  -- what rises does so up to any place
  pub rise_front : (xs ys : List ℕ) → NumbersRise (xs ++ ys) → NumbersRise xs
  rise_front [] ys h = tt
  rise_front (x ∷ xs) ys h = (front xs ys h.0, rise_front xs ys h.1)
    where
      front : (zs us : List ℕ) → AllByRecursion (λ y. x < y) (zs ++ us) → AllByRecursion (λ y. x < y) zs
      front [] us a = tt
      front (z ∷ zs) us a = (a.0, front zs us a.1)

  -- each haul is its worker's and saw its floors upward, and their morsels and turns are those of the workers' records
  record AreOfStopped (w : ℕ) (hs : List Haul) (vs : List Worker) : Type 0 where
    each : AreHaulsFrom t w hs
    upward : AllByRecursion (λ h. SeeUpward (option_to_list guess) (exchanges_in t h)) hs
    morsels : morsels_of (all_records hs) ≡ all_morsels vs
    turns : turns_of t hs ≡ flat_map (λ v. exchanges t [] v.records) vs

  -- so it is with the hauls of sound workers that have all stopped
  hauls_of : (w : ℕ) (hs : List Haul) (vs : List Worker) → AreHaulsOf vs hs → AreSoundFrom t guess w vs
      → list_all (λ v. has_stopped v.turn) vs ≡ true → AreOfStopped w hs vs
  hauls_of w [] [] a s e = record { each = tt; upward = tt; morsels = refl; turns = refl }
  hauls_of w (h ∷ hs) (v ∷ vs) a s e =
      let stop = and_parts (has_stopped v.turn) (list_all (λ (u : Worker). has_stopped u.turn) vs) e in
      let end : HasEnded v.turn = ended v.turn stop.0 s.0.turn in
      let rest = hauls_of (w + 1) hs vs a.1 s.1 stop.1 in
      let own : exchanges_of t v ≡ exchanges_in t h = grind (arith, append-nil) in
      record {
        each = grind (arith, rise_front, rest.each);
        upward = (rw own at s.0.upward, rest.upward);
        morsels = grind (arith, map-append, rest.morsels);
        turns = cc (rest.turns);
      }
  hauls_of w hs vs a s e = absurd a

-- once all have stopped, each morsel has one record and the hauls are sound and under the floor
pub ends_sound : EndsAreSound
ends_sound t guess s hs some h e a =
    let hauls = hauls_of t guess 0 hs s.workers a h.each e in
    grind (arith, end_sound t guess s some h e, lasts_past t guess 0 s.workers h.each e)

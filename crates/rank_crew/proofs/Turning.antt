-- One worker: at the start, one turn further, and when it stops.
use Rattle.std.proofs.Common.{◌≡◌, ℕ, zero, suc, ◌+◌, ◌<◌, ◌≤◌, List, [], ◌∷◌, ◌++◌, length, length-append, ℤ, ◌≤ℤ◌}
use Rattle.std.proofs.Common.{Option, Some, All, refl, sym, ap, ◌∙◌, subst, append-nil, append_assoc, option_to_list}
use Rattle.std.proofs.Common.{arith}
use Rattle.std.specs.Prelude.{IsSomeAnd, take}
use Rattle.std.specs.List.{AllByRecursion}
use Rattle.std.proofs.lemmas.List.Elements.{recursion_from_All}
use Rattle.ghcn_fields.specs.Floor.{IsAtLeast}
use Rattle.rank_scores.specs.declared.candidate.Candidate.{Candidate}
use Rattle.rank_board.specs.declared.seat.Seat.{Seat}
use Rattle.rank_board.specs.declared.board.Board.{Board}
use Rattle.rank_board.specs.Seats.{claims_of, raised_of, seen_of, rights_of, guess_of}
use Rattle.rank_board.specs.Calls.{Claims}
use Rattle.rank_sched.specs.declared.record.Record.{Record}
use Rattle.rank_sched.specs.declared.haul.Haul.{Haul}
use Rattle.rank_sched.specs.Task.{Task}
use Rattle.rank_sched.specs.Exchanges.{Exchange, morsels_of, scanned, pool_of, exchange, exchanges, seen_in}
use Rattle.rank_sched.specs.Exchanges.{raised_in, SeeUpward, IsRightSkip}
use Rattle.rank_sched.specs.Machine.{record_of}
use Rattle.rank_sched.specs.SoundRun.{NumbersRise}
use Rattle.rank_sched.specs.Hauls.{records_of, exchanges_in, IsHaulOf}
use Rattle.rank_sched.specs.Run.{IsEmptyHaul}
use Rattle.rank_sched.proofs.Lists.{All-right, each-append, morsels-push, seen_in-append, raised_in-append, rise-push}
use Rattle.rank_sched.proofs.Growing.{haul_grows, turns_grow, upward_grows}
use Rattle.rank_crew.specs.Workers.{Settles, KeepsClaims, OnlyLooks, Works, BreaksOff}
use Rattle.rank_crew.proofs.Rising.{rise_few}

-- a worker between two turns: its haul is sound so far, and what its seat has more than at the start is what its
-- records say
pub record IsMidway (t : Task) (guess : Option ℤ) (w : ℕ) (begin now : Seat) (h : Haul) : Type 0 where
  pub haul : IsHaulOf t w h
  pub within : AllByRecursion (λ r. r.morsel < t.len) (records_of h)
  pub upward : SeeUpward (option_to_list guess) (exchanges_in t h)
  pub claims : claims_of now ≡ claims_of begin ++ morsels_of (records_of h)
  pub raised : raised_of now ≡ raised_of begin ++ raised_in (exchanges_in t h)
  pub seen : seen_of now ≡ seen_of begin ++ seen_in (exchanges_in t h)
  pub count : length (records_of h) + rights_of now ≡ rights_of begin

-- a list that grows at its end, and what it is made of
pub grown : {A : Type 0} (before mid after made new more : List A) → after ≡ mid ++ new → mid ≡ before ++ made
    → more ≡ made ++ new → after ≡ before ++ more
grown before mid after made new more e g h =
    e ∙ ap (λ l. l ++ new) g ∙ append_assoc before made new ∙ ap (λ l. before ++ l) (sym h)

-- the first of no candidates
take_none : (k : ℕ) → take {A = Candidate} k [] ≡ []
take_none zero = refl
take_none (suc k) = refl

-- at the start
pub midway_start : (t : Task) (guess : Option ℤ) (w k : ℕ) (s : Seat) (h : Haul) → k ≡ t.k → IsEmptyHaul k h
    → IsMidway t guess w s s h
midway_start t guess w k s h asked e =
    let no : [] ≡ records_of h = sym e.records in
    record {
      haul = record {
        named = subst (AllByRecursion (λ r. r.worker ≡ w)) no tt;
        rise = subst (λ (l : List Record). NumbersRise (morsels_of l)) no tt;
        skips = subst (AllByRecursion (IsRightSkip t)) no tt;
        pool = e.pool ∙ ap (λ (n : ℕ). record { size = n; held = [] }) asked
            ∙ ap (λ (l : List Candidate). record { size = t.k; held = l }) (sym (take_none t.k)) ∙ ap (pool_of t) no;
      };
      within = subst (AllByRecursion (λ r. r.morsel < t.len)) no tt;
      upward = subst (λ (l : List Record). SeeUpward (option_to_list guess) (exchanges t [] l)) no tt;
      claims = sym (append-nil (claims_of s)) ∙ ap (λ (l : List Record). claims_of s ++ morsels_of l) no;
      raised = sym (append-nil (raised_of s))
          ∙ ap (λ (l : List Record). raised_of s ++ raised_in (exchanges t [] l)) no;
      seen = sym (append-nil (seen_of s)) ∙ ap (λ (l : List Record). seen_of s ++ seen_in (exchanges t [] l)) no;
      count = omega (arith, ap length e.records);
    }

-- there are as many morsels as records
length_morsels : (rs : List Record) → length (morsels_of rs) ≡ length rs
length_morsels [] = refl
length_morsels (r ∷ rs) = omega (arith, length_morsels rs)

-- records of morsels below n have numbers below n
morsels_within : (n : ℕ) (rs : List Record) → AllByRecursion (λ r. r.morsel < n) rs
    → AllByRecursion (λ x. x < n) (morsels_of rs)
morsels_within n [] h = tt
morsels_within n (r ∷ rs) h = (h.0, morsels_within n rs h.1)

-- a worker has not made more records than there are morsels
pub few_records : (t : Task) (guess : Option ℤ) (w : ℕ) (begin now : Seat) (h : Haul) → IsMidway t guess w begin now h
    → length (records_of h) ≤ t.len
few_records t guess w begin now h m =
    omega (
      arith,
      rise_few t.len (morsels_of (records_of h)) m.haul.rise (morsels_within t.len (records_of h) m.within),
      length_morsels (records_of h),
    )

-- the floor is at least the last part of what it is at least
at_least_last : (floor : Option ℤ) (all before new : List ℤ) → all ≡ before ++ new → IsAtLeast floor all
    → IsAtLeast floor new
at_least_last floor all before new e h =
    All-right (λ s. IsSomeAnd floor (λ f. s ≤ℤ f)) before new (subst (IsAtLeast floor) e h)

-- the records before a claim belong to smaller morsels
smaller : (t : Task) (guess : Option ℤ) (w n : ℕ) (begin now : Seat) (h : Haul) → IsMidway t guess w begin now h
    → All (λ x. x < n) (claims_of now) → AllByRecursion (λ x. x < n) (morsels_of (records_of h))
smaller t guess w n begin now h m above =
    recursion_from_All (λ x. x < n) (morsels_of (records_of h))
    (All-right (λ x. x < n) (claims_of begin) (morsels_of (records_of h)) (subst (All (λ x. x < n)) m.claims above))

module _ (b : Board) (t : Task) (w n : ℕ) (begin before claimed after : Seat) (old new : Haul)
    (m : IsMidway t (guess_of b) w begin before old) (c : Claims b before n claimed) (k : KeepsClaims b claimed after)
    (s : Settles b t w n claimed after old new) (low : n < t.len) where
  -- its turn
  last_turn : Exchange
  last_turn = exchange t (scanned t (records_of old)) (record_of t w n s.floor)

  morsels_now : morsels_of (records_of new) ≡ morsels_of (records_of old) ++ n ∷ []
  morsels_now = ap morsels_of s.settled.records ∙ morsels-push (records_of old) (record_of t w n s.floor)

  turns_now : exchanges_in t new ≡ exchanges_in t old ++ last_turn ∷ []
  unfolding last_turn
  turns_now = turns_grow t old new (record_of t w n s.floor) s.settled

  raised_now : raised_in (exchanges_in t new) ≡ raised_in (exchanges_in t old) ++ option_to_list last_turn.raised
  raised_now =
      ap raised_in turns_now ∙ raised_in-append (exchanges_in t old) (last_turn ∷ [])
      ∙ ap (λ (l : List ℤ). raised_in (exchanges_in t old) ++ l) (append-nil (option_to_list last_turn.raised))

  seen_now : seen_in (exchanges_in t new) ≡ seen_in (exchanges_in t old) ++ option_to_list s.floor
  unfolding last_turn
  seen_now =
      ap seen_in turns_now ∙ seen_in-append (exchanges_in t old) (last_turn ∷ [])
      ∙ ap (λ (l : List ℤ). seen_in (exchanges_in t old) ++ l) (append-nil (option_to_list s.floor))

  -- one turn further
  pub midway_next : IsMidway t (guess_of b) w begin after new
  unfolding last_turn
  midway_next = record {
    haul = haul_grows t w old new (record_of t w n s.floor) m.haul refl
        (smaller t (guess_of b) w n begin before old m c.rises) refl s.settled;
    within = subst (AllByRecursion (λ r. r.morsel < t.len)) (sym s.settled.records)
        (each-append (λ r. r.morsel < t.len) (records_of old) (record_of t w n s.floor ∷ []) m.within (low, tt));
    upward = subst (SeeUpward (option_to_list (guess_of b))) (sym turns_now)
        (upward_grows (option_to_list (guess_of b)) (exchanges_in t old) last_turn m.upward s.above_guess
        (at_least_last s.floor (seen_of claimed) (seen_of begin) (seen_in (exchanges_in t old)) (c.seen ∙ m.seen)
        s.above_seen)
        (at_least_last s.floor (raised_of claimed) (raised_of begin) (raised_in (exchanges_in t old))
        (c.raised ∙ m.raised) s.above_raised));
    claims = grown (claims_of begin) (claims_of before) (claims_of after) (morsels_of (records_of old)) (n ∷ [])
        (morsels_of (records_of new)) (k.claims ∙ c.claims) m.claims morsels_now;
    raised = grown (raised_of begin) (raised_of before) (raised_of after) (raised_in (exchanges_in t old))
        (option_to_list last_turn.raised) (raised_in (exchanges_in t new))
        (s.raised ∙ ap (λ (l : List ℤ). l ++ option_to_list last_turn.raised) c.raised) m.raised raised_now;
    seen = grown (seen_of begin) (seen_of before) (seen_of after) (seen_in (exchanges_in t old))
        (option_to_list s.floor) (seen_in (exchanges_in t new))
        (s.seen ∙ ap (λ (l : List ℤ). l ++ option_to_list s.floor) c.seen) m.seen seen_now;
    count = omega (
      arith,
      ap length s.settled.records,
      length-append (records_of old) (record_of t w n s.floor ∷ []),
      k.rights,
      c.spends,
      m.count,
    );
  }

-- a worker whose claim is past the last morsel has done its work
pub works : (b : Board) (t : Task) (w n : ℕ) (begin before after : Seat) (h : Haul)
    → IsMidway t (guess_of b) w begin before h → Claims b before n after → t.len ≤ n → Works b t w begin after h
works b t w n begin before after h m c past =
    record {
      last = n;
      sound = record {
        rise = rise-push (morsels_of (records_of h)) n m.haul.rise
            (smaller t (guess_of b) w n begin before h m c.rises);
        named = m.haul.named;
        settled = refl;
        within = m.within;
        turn = past;
        pool = m.haul.pool;
        skips = m.haul.skips;
        upward = subst (SeeUpward (option_to_list (guess_of b))) (sym (append-nil (exchanges_in t h))) m.upward;
      };
      claims = c.claims ∙ ap (λ (l : List ℕ). l ++ n ∷ []) m.claims
          ∙ append_assoc (claims_of begin) (morsels_of (records_of h)) (n ∷ []);
      raised = c.raised ∙ m.raised;
      seen = c.seen ∙ m.seen;
    }

-- out of memory in a turn: a morsel was drawn and the floor looked at, and nothing more was raised
pub breaks : (t : Task) (guess : Option ℤ) (b : Board) (w n : ℕ) (begin before claimed after : Seat) (h : Haul)
    → IsMidway t guess w begin before h → Claims b before n claimed → KeepsClaims b claimed after
    → OnlyLooks claimed after → BreaksOff t w begin after
breaks t guess b w n begin before claimed after h m c k o = record {
  records = records_of h;
  named = m.haul.named;
  within = m.within;
  skips = m.haul.skips;
  drawn = Some n;
  looked = o.floor;
  claims = grown (claims_of begin) (claims_of before) (claims_of after) (morsels_of (records_of h)) (n ∷ [])
      (morsels_of (records_of h) ++ n ∷ []) (k.claims ∙ c.claims) m.claims refl;
  seen = grown (seen_of begin) (seen_of before) (seen_of after) (seen_in (exchanges_in t h)) (option_to_list o.floor)
      (seen_in (exchanges_in t h) ++ option_to_list o.floor)
      (o.seen ∙ ap (λ (l : List ℤ). l ++ option_to_list o.floor) c.seen) m.seen refl;
  raised = o.raised ∙ c.raised ∙ m.raised;
}

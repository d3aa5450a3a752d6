-- What one worker says as a group of one, and what two groups say together.
use Rattle.std.proofs.Common.{◌≡◌, ℕ, ◌+◌, List, [], ◌∷◌, ◌++◌, ℤ, Result, Ok, Err, IfOk, IsOkAnd, All, Contains}
use Rattle.std.proofs.Common.{refl, sym, ap, ◌∙◌, subst, arith, length-append, append-nil}
use Rattle.std.proofs.lemmas.List.Elements.{All-append, All-weaker, All-contains_itself, Contains-append_left}
use Rattle.std.proofs.lemmas.List.Elements.{Contains-append_right}
use Rattle.ghcn_fields.specs.Counting.{times}
use Rattle.ghcn_fields.proofs.CountingLaws.{times-append}
use Rattle.rank_board.specs.declared.board.Board.{Board}
use Rattle.rank_board.specs.declared.seat.Seat.{Seat}
use Rattle.rank_board.specs.Seats.{claims_of, raised_of, seen_of, guess_of}
use Rattle.rank_board.specs.Calls.{Splits, Joins}
use Rattle.rank_sched.specs.declared.haul.Haul.{Haul}
use Rattle.rank_sched.specs.declared.turn.Turn.TheVariants.{Stopped}
use Rattle.rank_sched.specs.Task.{Task}
use Rattle.rank_sched.specs.Exchanges.{Exchange, raised_in, seen_in}
use Rattle.rank_sched.specs.Machine.{Worker}
use Rattle.rank_sched.specs.SoundRun.{exchanges_of, all_exchanges}
use Rattle.rank_sched.specs.Hauls.{exchanges_in}
use Rattle.rank_sched.specs.Run.{worker_with}
use Rattle.rank_sched.proofs.Growing.{workers_join, hauls_join, stops_join, turns_join}
use Rattle.rank_crew.specs.Workers.{Works, BringHome}
use Rattle.rank_crew.proofs.Turning.{grown}

-- ---- seen scores

-- what was added to a list is in it
there : (before after news : List ℤ) → after ≡ before ++ news → All (Contains after) news
there before after news e = subst (λ (l : List ℤ). All (Contains l) news) (sym e)
    (All-weaker (Contains news) (Contains (before ++ news)) (λ x c. Contains-append_right before news x c) news
    (All-contains_itself news))

-- what is in either of two lists is in both together
there_both : (mid other after xs ys all : List ℤ) → after ≡ mid ++ other → all ≡ xs ++ ys → All (Contains mid) xs
    → All (Contains other) ys → All (Contains after) all
there_both mid other after xs ys all e r p q =
    subst (λ (l : List ℤ × List ℤ). All (Contains l.0) l.1) (λ i. (sym e i, sym r i))
    (All-append (Contains (mid ++ other)) xs ys
    (All-weaker (Contains mid) (Contains (mid ++ other)) (λ x c. Contains-append_left mid other x c) xs p)
    (All-weaker (Contains other) (Contains (mid ++ other)) (λ x c. Contains-append_right mid other x c) ys q))

-- ---- groups

-- a group of one
pub gathers_one : (b : Board) (t : Task) (w : ℕ) (before after : Seat) (h : Haul) (hs : List Haul) → hs ≡ h ∷ []
    → Works b t w before after h → BringHome b t w 1 before after hs
gathers_one b t w before after h hs e k =
    let v : Worker = worker_with (Stopped k.last, h) in
    let turns : all_exchanges t (v ∷ []) ≡ exchanges_in t h =
    append-nil (exchanges_of t v) ∙ append-nil (exchanges_in t h) in
    subst (BringHome b t w 1 before after) (sym e) (record {
      crew = v ∷ [];
      count = refl;
      sound = (k.sound, tt);
      stopped = refl;
      hauls = ((refl, refl), tt);
      claims = λ x. ap (times x) k.claims ∙ times-append x (claims_of before) v.claims
          ∙ ap (λ (l : List ℕ). times x (claims_of before) + times x l) (sym (append-nil v.claims));
      raised = k.raised ∙ ap (λ (l : List Exchange). raised_of before ++ raised_in l) (sym turns);
      seen = subst (λ (l : List Exchange). All (Contains (seen_of after)) (seen_in l)) (sym turns)
          (there (seen_of before) (seen_of after) (seen_in (exchanges_in t h)) k.seen);
    })

-- the same if memory may have run out
pub gathers_if_one : {V E : Type 0} (items : V → List Haul) (b : Board) (t : Task) (w : ℕ) (before after : Seat)
    (h : Haul) (hauls : Result V E) → IfOk hauls (λ v. items v ≡ h ∷ []) → Works b t w before after h
    → IfOk hauls (λ v. BringHome b t w 1 before after (items v))
gathers_if_one items b t w before after h (Ok v) e k = gathers_one b t w before after h (items v) e k
gathers_if_one items b t w before after h (Err x) e k = tt

module _ (b : Board) (t : Task) (from after_from m k workers part : ℕ) (seat kept other mid end after : Seat)
    (w : workers ≡ m + k) (f : after_from ≡ from + m) (cut : Splits seat part kept other)
    (join : Joins mid end after) where
  -- the hauls of m workers, and after them those of the next k
  gathers_both : (xs ys hs : List Haul) → hs ≡ xs ++ ys → BringHome b t from m kept mid xs
      → BringHome b t after_from k other end ys → BringHome b t from workers seat after hs
  gathers_both xs ys hs e p q =
      let both = turns_join t p.crew q.crew in
      let raised_end : raised_of end ≡ raised_in (all_exchanges t q.crew) =
      q.raised ∙ ap (λ (l : List ℤ). l ++ raised_in (all_exchanges t q.crew)) cut.new_raised in
      subst (BringHome b t from workers seat after) (sym e) (record {
        crew = p.crew ++ q.crew;
        count = omega (arith, length-append p.crew q.crew, p.count, q.count);
        sound = workers_join t (guess_of b) from after_from p.crew q.crew (omega (arith, p.count)) p.sound q.sound;
        stopped = stops_join p.crew q.crew p.stopped q.stopped;
        hauls = hauls_join p.crew q.crew xs ys p.hauls q.hauls;
        claims = λ x. omega (
          arith,
          ap (times x) join.claims,
          times-append x (claims_of mid) (claims_of end),
          p.claims x,
          q.claims x,
          ap (times x) cut.claims,
          ap (times x) cut.new_claims,
          both.0 x,
        );
        raised = grown (raised_of seat) (raised_of mid) (raised_of after) (raised_in (all_exchanges t p.crew))
            (raised_in (all_exchanges t q.crew)) (raised_in (all_exchanges t (p.crew ++ q.crew)))
            (join.raised ∙ ap (λ (l : List ℤ). raised_of mid ++ l) raised_end)
            (p.raised ∙ ap (λ (l : List ℤ). l ++ raised_in (all_exchanges t p.crew)) cut.raised) both.1;
        seen = there_both (seen_of mid) (seen_of end) (seen_of after) (seen_in (all_exchanges t p.crew))
            (seen_in (all_exchanges t q.crew)) (seen_in (all_exchanges t (p.crew ++ q.crew))) join.seen both.2 p.seen
            q.seen;
      })

  -- the same if memory may have run out in each
  pub both_groups : {V E : Type 0} (items : V → List Haul) (first second all : Result V E)
      → IfOk all (λ v. IsOkAnd first (λ a. IsOkAnd second (λ c. items v ≡ items a ++ items c)))
      → IfOk first (λ v. BringHome b t from m kept mid (items v))
      → IfOk second (λ v. BringHome b t after_from k other end (items v))
      → IfOk all (λ v. BringHome b t from workers seat after (items v))
  both_groups items first second (Err x) e p q = tt
  both_groups items (Err x) second (Ok v) e p q = absurd e
  both_groups items (Ok u) (Err x) (Ok v) e p q = absurd e
  both_groups items (Ok u) (Ok s) (Ok v) e p q = gathers_both (items u) (items s) (items v) e p q

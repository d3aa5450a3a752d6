-- What a whole seat says of a group that has all workers: together they are a sound run that has stopped.
use Rattle.std.proofs.Common.{◌≡◌, ℕ, ◌<◌, List, [], ◌∷◌, ◌++◌, length, ℤ, Option, Result, Ok, Err, IfOk, All}
use Rattle.std.proofs.Common.{Contains, refl, ap, ◌∙◌, subst, arith}
use Rattle.std.proofs.lemmas.List.Elements.{All-weaker, All-contains}
use Rattle.ghcn_fields.specs.Counting.{times}
use Rattle.ghcn_fields.specs.Floor.{IsFloorOf, IsGuessOrRaised}
use Rattle.rank_board.specs.declared.board.Board.{Board}
use Rattle.rank_board.specs.declared.board.Closed.{Closed}
use Rattle.rank_board.specs.declared.seat.Seat.{Seat}
use Rattle.rank_board.specs.Seats.{raised_of, seen_of, guess_of}
use Rattle.rank_board.specs.Calls.{OpensBoard, AccountsForAll}
use Rattle.rank_sched.specs.declared.haul.Haul.{Haul}
use Rattle.rank_sched.specs.Task.{Task}
use Rattle.rank_sched.specs.Exchanges.{raised_in, seen_in}
use Rattle.rank_sched.specs.Hauls.{AreHaulsOf}
use Rattle.rank_sched.specs.Machine.{Worker, State}
use Rattle.rank_sched.specs.SoundRun.{all_exchanges, IsSoundState}
use Rattle.rank_sched.proofs.Ends.{ends_sound}
use Rattle.rank_crew.specs.Workers.{BringHome, IsEnd}

-- there are as many hauls as workers
hauls_count : (vs : List Worker) (hs : List Haul) → AreHaulsOf vs hs → length hs ≡ length vs
hauls_count [] [] a = refl
hauls_count (v ∷ vs) [] a = absurd a
hauls_count [] (h ∷ hs) a = absurd a
hauls_count (v ∷ vs) (h ∷ hs) a = omega (arith, hauls_count vs hs a.1)

module _ (b : Board) (t : Task) (guess : Option ℤ) (workers rights : ℕ) (begin after : Seat) (closed : Closed)
    (open_ : OpensBoard rights guess b begin) (k : AccountsForAll b after closed) (some : 0 < workers) where
  module _ (hs : List Haul) (g : BringHome b t 0 workers begin after hs) where
    -- the state that the board and the workers were left in
    end_state : State
    end_state = record { next = closed.next; floor = closed.floor; workers = g.crew }

    -- what has been raised in the end is what the workers raised
    all_raised : raised_of after ≡ raised_in (all_exchanges t g.crew)
    all_raised = g.raised ∙ ap (λ (l : List ℤ). l ++ raised_in (all_exchanges t g.crew)) open_.raised

    -- it is that of a sound run
    end_sound : IsSoundState t (guess_of b) end_state
    unfolding end_state
    end_sound = record {
      claims = λ x. omega (arith, g.claims x, ap (times x) open_.claims, k.once x);
      each = g.sound;
      floor = subst (λ (l : List ℤ). IsFloorOf (guess_of b) l closed.floor) all_raised k.floor;
      seen = subst (λ (l : List ℤ). All (IsGuessOrRaised (guess_of b) l) (seen_in (all_exchanges t g.crew))) all_raised
          (All-weaker (Contains (seen_of after)) (IsGuessOrRaised (guess_of b) (raised_of after))
          (λ s there. All-contains (IsGuessOrRaised (guess_of b) (raised_of after)) (seen_of after) s k.seen there)
          (seen_in (all_exchanges t g.crew)) g.seen);
    }

    -- so the hauls are sound, and under the floor
    is_end : IsEnd t guess workers hs
    unfolding end_state
    is_end =
        let ends = ends_sound t (guess_of b) end_state hs (omega (arith, g.count)) end_sound g.stopped g.hauls in
        subst (λ (q : Option ℤ). IsEnd t q workers hs) open_.first_floor (record {
          floor = closed.floor;
          count = hauls_count g.crew hs g.hauls ∙ g.count;
          sound = ends.1;
          under_floor = ends.2;
        })

  -- the same if memory may have run out
  pub is_end_if : {V E : Type 0} (items : V → List Haul) (r : Result V E)
      → IfOk r (λ v. BringHome b t 0 workers begin after (items v)) → IfOk r (λ v. IsEnd t guess workers (items v))
  is_end_if items (Ok v) g = is_end (items v) g
  is_end_if items (Err e) g = tt

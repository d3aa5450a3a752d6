-- What workers do to a seat of a board, and their hauls.
use Rattle.std.specs.Prelude.{◌≡◌, ℕ, ◌+◌, ◌*◌, ◌<◌, ◌≤◌, true, List, ◌++◌, length, ℤ, Option, option_to_list, All}
use Rattle.std.specs.Prelude.{Contains, []}
use Rattle.std.specs.List.{AllByRecursion}
use Rattle.ghcn_fields.specs.Counting.{times}
use Rattle.ghcn_fields.specs.Floor.{IsAtLeast}
use Rattle.rank_board.specs.declared.seat.Seat.{Seat}
use Rattle.rank_board.specs.declared.board.Board.{Board}
use Rattle.rank_board.specs.Seats.{claims_of, raised_of, seen_of, rights_of, guess_of, IsSeatOf}
use Rattle.rank_sched.specs.declared.haul.Haul.{Haul}
use Rattle.rank_sched.specs.declared.record.Record.{Record}
use Rattle.rank_sched.specs.declared.turn.Turn.TheVariants.{Stopped}
use Rattle.rank_sched.specs.Task.{Task, IsFair}
use Rattle.rank_sched.specs.Exchanges.{morsels_of, scanned, pool_of, IsRightSkip, exchange, exchanges, raised_in, seen_in}
use Rattle.rank_sched.specs.Machine.{Worker, record_of, all_stopped}
use Rattle.rank_sched.specs.SoundRun.{IsSoundWorker, AreSoundFrom, all_exchanges, claims_in}
use Rattle.rank_sched.specs.Hauls.{records_of, exchanges_in, AreHaulsOf, AreSound, AreUnderFloor}
use Rattle.rank_sched.specs.Run.{HasSettled, worker_with}

-- ---- one morsel

-- a worker may settle a morsel of a fair task: its seat has claimed a number, and its pool is that of its records
pub record MaySettle (b : Board) (t : Task) (s : Seat) (h : Haul) : Type 0 where
  pub fair : IsFair t
  pub mine : IsSeatOf b s
  pub claimed : 0 < length (claims_of s)
  pub pool : h.pool ≡ pool_of t (records_of h)

-- the second list begins with the first
pub record BeginsWith {A : Type 0} (xs ys : List A) : Type 0 where
  pub more : List A
  pub parts : ys ≡ xs ++ more

-- a seat of the board with the claims and the rights of before, which may have raised more
pub record KeepsClaims (b : Board) (before after : Seat) : Type 0 where
  pub mine : IsSeatOf b after
  pub claims : claims_of after ≡ claims_of before
  pub rights : rights_of after ≡ rights_of before
  pub raised : BeginsWith (raised_of before) (raised_of after)

-- a morsel is settled: its record has the floor that the seat saw, and the seat raised what the record stands for
pub record Settles (b : Board) (t : Task) (w m : ℕ) (before after : Seat) (old new : Haul) : Type 0 where
  pub floor : Option ℤ
  pub settled : HasSettled t old (record_of t w m floor) new
  pub raised : raised_of after ≡ raised_of before
      ++ option_to_list (exchange t (scanned t (records_of old)) (record_of t w m floor)).raised
  pub seen : seen_of after ≡ seen_of before ++ option_to_list floor
  -- the floor is at least the guess, and all that the seat saw or raised before
  pub above_guess : IsAtLeast floor (option_to_list (guess_of b))
  pub above_seen : IsAtLeast floor (seen_of before)
  pub above_raised : IsAtLeast floor (raised_of before)

-- a seat has seen one floor more, if there was one, and has raised nothing
pub record OnlyLooks (before after : Seat) : Type 0 where
  pub floor : Option ℤ
  pub raised : raised_of after ≡ raised_of before
  pub seen : seen_of after ≡ seen_of before ++ option_to_list floor

-- ---- one worker

-- a seat of the board that has what it claimed and raised before,
-- and whose claims and rights add up to as many as before
pub record IsKept (b : Board) (before after : Seat) : Type 0 where
  pub mine : IsSeatOf b after
  pub claims : BeginsWith (claims_of before) (claims_of after)
  pub raised : BeginsWith (raised_of before) (raised_of after)
  pub kept : length (claims_of after) + rights_of after ≡ length (claims_of before) + rights_of before

-- the worker of a number did its work: it is a sound worker that stopped with this haul,
-- and its claims, raised and seen scores are added to its seat
pub record Works (b : Board) (t : Task) (w : ℕ) (before after : Seat) (h : Haul) : Type 0 where
  pub last : ℕ
  pub sound : IsSoundWorker t (guess_of b) w (worker_with (Stopped last, h))
  pub claims : claims_of after ≡ claims_of before ++ (worker_with (Stopped last, h)).claims
  pub raised : raised_of after ≡ raised_of before ++ raised_in (exchanges_in t h)
  pub seen : seen_of after ≡ seen_of before ++ seen_in (exchanges_in t h)

-- the worker of a number broke off: its seat has claimed the morsels of its records and maybe one more, has
-- seen the floors of these records and maybe one more, and has raised what the records stand for, and nothing else
pub record BreaksOff (t : Task) (w : ℕ) (before after : Seat) : Type 0 where
  pub records : List Record
  pub named : AllByRecursion (λ r. r.worker ≡ w) records
  pub within : AllByRecursion (λ r. r.morsel < t.len) records
  pub skips : AllByRecursion (IsRightSkip t) records
  pub drawn : Option ℕ
  pub looked : Option ℤ
  pub claims : claims_of after ≡ claims_of before ++ (morsels_of records ++ option_to_list drawn)
  pub seen : seen_of after ≡ seen_of before ++ (seen_in (exchanges t [] records) ++ option_to_list looked)
  pub raised : raised_of after ≡ raised_of before ++ raised_in (exchanges t [] records)

-- ---- some workers

-- a seat of the board with rights enough for that many workers
pub record HasShare (b : Board) (t : Task) (workers : ℕ) (s : Seat) : Type 0 where
  pub mine : IsSeatOf b s
  pub some : 0 < workers
  pub rights : workers * (t.len + 1) ≤ rights_of s

-- sound workers, with these numbers and upwards, did their work between two moments of a seat,
-- and these are their hauls
pub record BringHome (b : Board) (t : Task) (from workers : ℕ) (before after : Seat) (hs : List Haul) : Type 0 where
  pub crew : List Worker
  pub count : length crew ≡ workers
  pub sound : AreSoundFrom t (guess_of b) from crew
  pub stopped : all_stopped crew ≡ true
  pub hauls : AreHaulsOf crew hs
  pub claims : (x : ℕ) → times x (claims_of after) ≡ times x (claims_of before) + times x (claims_in crew)
  pub raised : raised_of after ≡ raised_of before ++ raised_in (all_exchanges t crew)
  pub seen : All (Contains (seen_of after)) (seen_in (all_exchanges t crew))

-- a run has ended: it has sound hauls of that many workers, under some floor
pub record IsEnd (t : Task) (guess : Option ℤ) (workers : ℕ) (hs : List Haul) : Type 0 where
  pub floor : Option ℤ
  pub count : length hs ≡ workers
  pub sound : AreSound t hs
  pub under_floor : AreUnderFloor t guess hs floor

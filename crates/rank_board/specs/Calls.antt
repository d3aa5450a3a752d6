-- What each call on a board does to what its seat knows.
use Rattle.std.specs.Prelude.{◌≡◌, ℕ, ◌+◌, ◌<◌, ◌≤◌, ◌^◌, List, [], ◌∷◌, ◌++◌, length, ℤ, Option, option_to_list, All}
use mathlib.Core.Option.{some}
use lib.ListN.{get_elem?}
use Rattle.ghcn_fields.specs.Counting.{HasEachBelow}
use Rattle.ghcn_fields.specs.Floor.{IsAtLeast, IsGuessOrRaised, IsFloorOf}
use Rattle.rank_board.specs.declared.rule.View.{View}
use Rattle.rank_board.specs.declared.board.Board.{Board}
use Rattle.rank_board.specs.declared.board.Closed.{Closed}
use Rattle.rank_board.specs.declared.seat.Seat.{Seat}
use Rattle.rank_board.specs.Word.{floor_word}
use Rattle.rank_board.specs.Rule.{IsRuled}
use Rattle.rank_board.specs.Seats.{opened, guess_of, claims_of, raised_of, seen_of, rights_of}

-- the board keeps the number of rights and the guess, and its first seat has all rights and has seen the guess
pub record OpensBoard (rights : ℕ) (guess : Option ℤ) (b : Board) (s : Seat) : Type 0 where
  pub all_rights : opened b ≡ rights
  pub first_floor : guess_of b ≡ guess
  pub claims : claims_of s ≡ []
  pub raised : raised_of s ≡ []
  pub seen : seen_of s ≡ option_to_list guess
  pub rights_given : rights_of s ≡ rights

-- the number, greater than all that the seat claimed, is added to its claims, and one right is spent;
-- the number and the rights that the seat had are at most those opened, of which there are at most 2^40
pub record Claims (b : Board) (before : Seat) (number : ℕ) (after : Seat) : Type 0 where
  pub rises : All (λ x. x < number) (claims_of before)
  pub below : number + rights_of before ≤ opened b
  pub limit : opened b ≤ 2 ^ 40
  pub claims : claims_of after ≡ claims_of before ++ number ∷ []
  pub raised : raised_of after ≡ raised_of before
  pub seen : seen_of after ≡ seen_of before
  pub spends : rights_of after + 1 ≡ rights_of before

-- the floor, at least the guess and every score that the seat saw or raised, joins the scores seen
pub record Looks (b : Board) (before : Seat) (floor : Option ℤ) (after : Seat) : Type 0 where
  pub above_guess : IsAtLeast floor (option_to_list (guess_of b))
  pub above_seen : IsAtLeast floor (seen_of before)
  pub above_raised : IsAtLeast floor (raised_of before)
  pub claims : claims_of after ≡ claims_of before
  pub raised : raised_of after ≡ raised_of before
  pub seen : seen_of after ≡ seen_of before ++ option_to_list floor
  pub keeps_rights : rights_of after ≡ rights_of before

-- the score is added to the scores that the seat raised
pub record Raises (before : Seat) (score : ℤ) (after : Seat) : Type 0 where
  pub claims : claims_of after ≡ claims_of before
  pub raised : raised_of after ≡ raised_of before ++ score ∷ []
  pub seen : seen_of after ≡ seen_of before
  pub keeps_rights : rights_of after ≡ rights_of before

-- this many rights go to a new seat, which begins with all scores that the first saw or raised as seen
pub record Splits (before : Seat) (part : ℕ) (after new : Seat) : Type 0 where
  pub claims : claims_of after ≡ claims_of before
  pub raised : raised_of after ≡ raised_of before
  pub seen : seen_of after ≡ seen_of before
  pub rights_kept : rights_of after + part ≡ rights_of before
  pub new_claims : claims_of new ≡ []
  pub new_raised : raised_of new ≡ []
  pub new_seen : seen_of new ≡ seen_of before ++ raised_of before
  pub rights_given : rights_of new ≡ part

-- the seat has what both had: claims, scores raised, scores seen and rights
pub record Joins (before other after : Seat) : Type 0 where
  pub claims : claims_of after ≡ claims_of before ++ claims_of other
  pub raised : raised_of after ≡ raised_of before ++ raised_of other
  pub seen : seen_of after ≡ seen_of before ++ seen_of other
  pub all_rights : rights_of after ≡ rights_of before + rights_of other

-- the board's rule held of the next number and the floor that were returned, and of what all seats, this one too, knew
abbrev pub ClosesUnderRule : Board → Seat → Closed → Type 0
ClosesUnderRule b s c = (views : List View) × (place : ℕ) × (get_elem? views place ≡ some s.inner.me.0)
    × IsRuled (opened b) (guess_of b) c.next (floor_word c.floor) views

-- the seat claimed every number below next, each once; the floor is the greatest of the guess and what it raised;
-- each score that it saw is one of these
pub record AccountsForAll (b : Board) (s : Seat) (c : Closed) : Type 0 where
  pub once : HasEachBelow c.next (claims_of s)
  pub count : length (claims_of s) ≡ c.next
  pub floor : IsFloorOf (guess_of b) (raised_of s) c.floor
  pub seen : All (IsGuessOrRaised (guess_of b) (raised_of s)) (seen_of s)

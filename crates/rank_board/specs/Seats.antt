-- What a caller sees of a board and of its seats.
use Rattle.std.specs.Prelude.{◌≡◌, ℕ, ◌+◌, List, [], length, ℤ, Option, IfSome, Contains}
use Rattle.rank_board.specs.declared.board.Board.{Board}
use Rattle.rank_board.specs.declared.seat.Seat.{Seat}

-- the number of rights that the board was opened with
abbrev pub opened : Board → ℕ
opened b = b.table.shared.key.rights

-- the guess that the board was opened with
abbrev pub guess_of : Board → Option ℤ
guess_of b = b.table.shared.key.guess

-- the numbers that the seat claimed, oldest first
abbrev pub claims_of : Seat → List ℕ
claims_of s = s.inner.me.0.claims

-- the scores that the seat raised
abbrev pub raised_of : Seat → List ℤ
raised_of s = s.inner.me.0.raised

-- the scores that the seat saw
abbrev pub seen_of : Seat → List ℤ
seen_of s = s.inner.me.0.seen

-- how many numbers the seat may still claim
abbrev pub rights_of : Seat → ℕ
rights_of s = s.left

-- the seat is one of this board's, and has seen its guess
pub record IsSeatOf (b : Board) (s : Seat) : Type 0 where
  pub table : s.inner.table_id ≡ b.table.shared.table_id
  pub bare : s.inner.me.1 ≡ []
  pub counted : s.left ≡ s.inner.me.0.rights
  pub guessed : IfSome (guess_of b) (Contains (seen_of s))

-- all claims made and all rights left have come back to this seat
abbrev pub IsWhole : Board → Seat → Type 0
IsWhole b s = length (claims_of s) + rights_of s ≡ opened b

-- Floors: the greatest of a guess and of the scores that were raised, or none.
use Rattle.std.specs.Prelude.{◌≡◌, ◌⊎◌, List, ℤ, pos, neg_ℤ, ◌≤ℤ◌, ◌^◌, Option, Some, IfSome, IsSomeAnd, option_to_list}
use Rattle.std.specs.Prelude.{All, Contains}

-- a score, and a guess at one, lies from -2^31 to 2^31
abbrev pub IsScore : ℤ → Type 0
IsScore s = (neg_ℤ (pos (2 ^ 31)) ≤ℤ s) × (s ≤ℤ pos (2 ^ 31))

-- the score is the guess, or one of those raised
abbrev pub IsGuessOrRaised : Option ℤ → List ℤ → ℤ → Type 0
IsGuessOrRaised guess raised s = (guess ≡ Some s) ⊎ Contains raised s

-- the floor is at least each of these scores; none is below every score
abbrev pub IsAtLeast : Option ℤ → List ℤ → Type 0
IsAtLeast floor scores = All (λ s. IsSomeAnd floor (λ f. s ≤ℤ f)) scores

-- the floor is the greatest of the guess and the scores raised, none if there is neither
pub record IsFloorOf (guess : Option ℤ) (raised : List ℤ) (floor : Option ℤ) : Type 0 where
  pub one_of_them : IfSome floor (IsGuessOrRaised guess raised)
  pub guess_below : IsAtLeast floor (option_to_list guess)
  pub raised_below : IsAtLeast floor raised

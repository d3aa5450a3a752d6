-- A guess that may be made is a score.
use Rattle.std.proofs.Common.{◌≡◌, Bool, true, false, Option, None, Some, refl, arith}
use Rattle.std.specs.Prelude.{◌&&◌, ℤ, pos, neg_ℤ, ◌≤ℤ◌, int_le, IfSome}
use Rattle.std.proofs.lemmas.Int.{ints}
use Rattle.ghcn_fields.specs.Floor.{IsScore}
use Rattle.rank_input.specs.Input.{is_guess}

-- what a test of two numbers says
le_of : (a b : ℤ) → int_le a b ≡ true → a ≤ℤ b
le_of a b e = grind (arith, ints)

-- of two tests that pass, each does
both_pass : (a b : Bool) → (a && b) ≡ true → (a ≡ true) × (b ≡ true)
both_pass true b e = (refl, e)
both_pass false b e = absurd cc

-- a guess that may be made, if there is one, is a score
pub guess_is_score : (guess : Option ℤ) → is_guess guess ≡ true → IfSome guess IsScore
guess_is_score None e = tt
guess_is_score (Some s) e =
    let within = both_pass (int_le (neg_ℤ (pos 2_147_483_648)) s) (int_le s (pos 2_147_483_648)) e in
    (le_of (neg_ℤ (pos 2_147_483_648)) s within.0, le_of s (pos 2_147_483_648) within.1)

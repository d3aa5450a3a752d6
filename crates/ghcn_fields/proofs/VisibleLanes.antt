-- Bytes that show in print, by lanes.
use Rattle.std.proofs.Common.{◌≡◌, ℕ, Bool, true, false, cond, List, [], ◌∷◌, map, arith, eqb, leb, ltb}
use Rattle.std.specs.Prelude.{◌&&◌, nat_le}
use Rattle.std.specs.List.{list_all, range_with_len}
use Rattle.std.proofs.lemmas.Bool.Decides.{nat_tests}
use lib.Lanes.{top}
use Rattle.ghcn_fields.specs.FieldForms.{are_set_but}
use Rattle.ghcn_fields.proofs.FieldLanes.{mark, taken}

-- a byte that shows in print
abbrev pub shows : ℕ → Bool
shows b = nat_le 33 b && nat_le b 126

-- the one nearest to a byte
abbrev nearest : ℕ → ℕ
nearest b =
    let least = cond (top 7 (mark (ltb b 33))) 33 b in
    cond (top 7 (mark (ltb least 126))) least 126

-- what a byte's lane says
abbrev pub lane : ℕ → ℕ
lane b = cond (top 7 (mark (eqb b (nearest b)))) 255 0

-- that it shows
lane-is : (b : ℕ) → leb 255 (lane b) ≡ shows b
lane-is b = simp taken (grind (arith, nat_tests))

-- five lanes of sixteen come after eleven
abbrev pub behind_eleven : List Bool
behind_eleven =
    false ∷ false ∷ false ∷ false ∷ false ∷ false ∷ false ∷ false ∷ false ∷ false ∷ false ∷ true ∷ true ∷ true ∷ true
    ∷ true ∷ []

-- the lanes of sixteen bytes say whether the first eleven show
pub eleven_show : (at : ℕ → ℕ)
    → are_set_but behind_eleven (map lane (map at (range_with_len 0 16)))
    ≡ list_all shows (map at (range_with_len 0 11))
eleven_show at = simp lane-is

-- Numbers with a sign.
use Rattle.std.specs.Prelude.{ℕ, Bool, true, false, ℤ, pos, neg_ℤ}

-- -n if there is a minus, and otherwise n
abbrev pub with_sign : Bool → ℕ → ℤ
with_sign true n = neg_ℤ (pos n)
with_sign false n = pos n

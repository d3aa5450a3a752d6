-- Days on the same side of the edges of a season.
use Rattle.rank_query.proofs.Cited.{◌≡◌, true, false, cond, ◌&&◌, ap, ◌∙◌, arith, ints, ℤ, pos, ◌+ℤ◌, ◌-ℤ◌, ◌≤ℤ◌}
use Rattle.rank_query.proofs.Cited.{int_le, FitsSigned, w32, rules}
use Rattle.std.specs.Prelude.{◌||◌, int_lt}
use Rattle.rank_query.specs.Meaning.Admits.{is_between_edges}

-- the days from one to another of the same month are few
pub close_fits : (day end : ℤ) → day ≤ℤ end → end ≤ℤ (day +ℤ pos 30) → FitsSigned w32 (end -ℤ day)
close_fits day end low high = search rules

-- days up to the one before an edge are before it
pub before_edge : (number day d : ℤ) → int_le (pos 0) (number -ℤ pos 1 -ℤ day) ≡ true
    → d ≤ℤ (day +ℤ (number -ℤ pos 1 -ℤ day)) → int_le number d ≡ int_le number day
before_edge number day d some to = grind (arith, ints)

-- so are fewer days
pub far_edge : (number day most d : ℤ) → int_lt (number -ℤ pos 1 -ℤ day) most ≡ false
    → int_le (pos 0) (number -ℤ pos 1 -ℤ day) ≡ true → d ≤ℤ (day +ℤ most) → int_le number d ≡ int_le number day
far_edge number day most d far some to = grind (arith, ints)

-- days from one on that isn't before an edge aren't either
pub after_edge : (number day d : ℤ) → int_le (pos 0) (number -ℤ pos 1 -ℤ day) ≡ false → day ≤ℤ d
    → int_le number d ≡ int_le number day
after_edge number day d past from = grind (arith, ints)

-- what is on one side of the day after a last one is on one side of the last one
last_same : (last day d : ℤ) → int_le (last +ℤ pos 1) d ≡ int_le (last +ℤ pos 1) day → int_le d last ≡ int_le day last
last_same last day d same = grind (arith, ints)

-- days on the same side of both edges are alike
pub between_same : (first last day d : ℤ) → int_le first d ≡ int_le first day
    → int_le (last +ℤ pos 1) d ≡ int_le (last +ℤ pos 1) day
    → is_between_edges first last d ≡ is_between_edges first last day
between_same first last day d one two =
    ap (λ b. cond (int_le first last) (b && int_le d last) (b || int_le d last)) one
    ∙ ap (λ b. cond (int_le first last) (int_le first day && b) (int_le first day || b)) (last_same last day d two)

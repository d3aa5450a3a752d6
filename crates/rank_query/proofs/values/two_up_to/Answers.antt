use Rattle.rank_query.proofs.Cited.{◌≡◌, List, ℕ, ◌+◌, ◌-◌, min, length, take, drop, Option, Some, None, sym, ap, ◌∙◌}
use Rattle.rank_query.proofs.Cited.{arith, option_map, common_steps, IsFirstByte, is_byte, natural, both}
use Rattle.rank_query.proofs.Cited.{natural_behind}
use Rattle.rank_query.proofs.Numerals.{two-whole, two-point}
use Rattle.rank_query.proofs.values.two_up_to.Goals as goal

-- both numbers, each up to a limit
abbrev kept : ℕ → Option (ℕ × ℕ) → Option (ℕ × ℕ)
kept most o = option_map (λ s. (min (most + 1) s.0, min (most + 1) s.1)) o

-- without a point there are no two numbers
pub returns-in-None : goal.returns-in-None
returns-in-None c =
    let word : List ℕ = c.args.word.now in
    let nowhere : IsFirstByte (is_byte 46) word None = rw c.in-None.is at c.memchr.ensures in
    sym (ap (kept c.args.most) (two-whole word nowhere))

-- with one they are on both sides of it
pub returns-in-Some : goal.returns-in-Some
returns-in-Some c =
    let word : List ℕ = c.args.word.now in
    let point : ℕ = c.in-Some.point in
    let first : IsFirstByte (is_byte 46) word (Some point) = rw c.in-Some.is at c.memchr.ensures in
    let rest : take (length word - (point + 1)) (drop (point + 1) word) ≡ drop (point + 1) word =
    grind (arith, common_steps) in
    c.both_up_to.ensures
    ∙ ap (λ (part : List ℕ). kept c.args.most (both (natural (take point word)) (natural_behind part))) rest
    ∙ sym (ap (kept c.args.most) (two-point word point first))

use Rattle.ghcn_series.proofs.Cited.{rules, ◌≡◌, List, ℤ, IsSome, subst, sym, ap, ◌∙◌, w32, to_z, of_z, option_or}
use Rattle.ghcn_series.proofs.Cited.{to_z-of_z, on_ok_weaker, MonthRow, DayValue, value_on, AreJoined, row_days}
use Rattle.ghcn_series.proofs.Cited.{days_held}
use Rattle.ghcn_series.proofs.MonthRows.{row-at}
use Rattle.ghcn_series.proofs.gathering.add_days.Goals as goal

-- the month's row is as it may be
pub add_row-requires-clause-row : goal.add_row-requires-clause-row
add_row-requires-clause-row c =
    let near = to_z-of_z w32 c.place_of-number.result.0 (search rules) in
    (row-at c.requires.right.0 c.args.row.now c.in-Some.first _ c.place_of-number.result.0 c.place_of-number.result.1
    c.requires.right.1.0 c.requires.right.1.1 (sym c.of.ensures.value ∙ c.in-Some.is) near
    c.place_of-number.ensures.day).0

-- and new, as the usable days are
pub add_row-requires-clause-fresh : goal.add_row-requires-clause-fresh
add_row-requires-clause-fresh c =
    let right = c.requires.right in let near = to_z-of_z w32 c.place_of-number.result.0 (search rules) in
    let same = (row-at right.0 c.args.row.now c.in-Some.first _ c.place_of-number.result.0
    c.place_of-number.result.1 right.1.0 right.1.1 (sym c.of.ensures.value ∙ c.in-Some.is) near
    c.place_of-number.ensures.day).1 in
    λ d some. c.requires.fresh right.0 right.1.0 right.1.1 d (subst IsSome (same d) some)

-- what is joined are the usable days
pub returns-clause-joined : goal.returns-clause-joined
returns-clause-joined c =
    let row : MonthRow = c.args.row.now in let place = c.place_of-number.result.1 in
    let z : ℤ = to_z w32 (of_z w32 c.place_of-number.result.0) in
    let near : z ≡ c.place_of-number.result.0 = to_z-of_z w32 c.place_of-number.result.0 (search rules) in
    let old : List DayValue = days_held c.args.held.now in let new : List DayValue = days_held c.add_row.new.self in
    on_ok_weaker c.add_row.result (λ (joined : AreJoined old (row_days z place row.word row.values) new) m right of d.
    joined d ∙ ap (option_or (value_on old d))
    ((row-at m row c.in-Some.first z c.place_of-number.result.0 place right of
    (sym c.of.ensures.value ∙ c.in-Some.is) near c.place_of-number.ensures.day).1 d)) c.add_row.ensures.joined

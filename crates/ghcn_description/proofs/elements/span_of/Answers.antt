use Rattle.std.proofs.Common.{sym, ◌∙◌, w32}
use Rattle.std.specs.Int.{trailing_zeros}
use Rattle.ghcn_files.specs.declared.row.MonthRow.{MonthRow}
use Rattle.ghcn_series.proofs.LastDays.{highest-bit}
use Rattle.ghcn_description.proofs.MonthFigures.{row-span, marked-day, marked-behind, none-usable}
use Rattle.ghcn_description.proofs.MonthFigures.{lowest-bit, lowest-le}
use Rattle.ghcn_description.proofs.elements.span_of.Goals as goal

-- a month without a bit has no usable day
pub returns-in_err-last : goal.returns-in_err-last
returns-in_err-last c m right of =
    rw c.from_residual.ensures (none-usable m c.args.row.now right of c.in_err-last.ensures.none)

-- the day of the lowest bit is in the calendar
pub returns-in_err-first : goal.returns-in_err-first
returns-in_err-first c m right of =
    let row : MonthRow = c.args.row.now in
    let top = highest-bit row.word c.in_ok-last.last c.in_ok-last.ensures.power_le c.in_ok-last.ensures.next_power_gt in
    let low = lowest-bit m row c.in_ok-last.last of top.0 in
    absurd (marked-day m row (trailing_zeros w32 row.word) right of low.0 (sym c.day_at.ensures ∙ c.in_err-first.was))

-- the highest bit isn't below the lowest
pub overflow_sub-last : goal.overflow_sub-last
overflow_sub-last c =
    let m = c.requires.0 in
    let row : MonthRow = c.args.row.now in
    let top = highest-bit row.word c.in_ok-last.last c.in_ok-last.ensures.power_le c.in_ok-last.ensures.next_power_gt in
    let low = lowest-bit m row c.in_ok-last.last c.requires.1.1 top.0 in
    lowest-le row.word (trailing_zeros w32 row.word) c.in_ok-last.last low.1 top.0

-- its day is in the calendar too
pub returns-in_err-day_behind : goal.returns-in_err-day_behind
returns-in_err-day_behind c m right of =
    let row : MonthRow = c.args.row.now in
    let top = highest-bit row.word c.in_ok-last.last c.in_ok-last.ensures.power_le c.in_ok-last.ensures.next_power_gt in
    let low = lowest-bit m row c.in_ok-last.last of top.0 in
    let le = lowest-le row.word (trailing_zeros w32 row.word) c.in_ok-last.last low.1 top.0 in
    let behind = marked-behind m row (trailing_zeros w32 row.word) c.in_ok-last.last c.in_ok-first.first right of le
    top.0 (sym c.day_at.ensures ∙ c.in_ok-first.was) in
    absurd (marked-day m row c.in_ok-last.last right of top.0
    (sym behind ∙ sym c.day_behind.ensures ∙ c.in_err-day_behind.was))

-- they are the first and the last usable day
pub returns : goal.returns
returns c m right of =
    let row : MonthRow = c.args.row.now in
    let top = highest-bit row.word c.in_ok-last.last c.in_ok-last.ensures.power_le c.in_ok-last.ensures.next_power_gt in
    let low = lowest-bit m row c.in_ok-last.last of top.0 in
    let le = lowest-le row.word (trailing_zeros w32 row.word) c.in_ok-last.last low.1 top.0 in
    let at = sym c.day_at.ensures ∙ c.in_ok-first.was in
    let behind = marked-behind m row (trailing_zeros w32 row.word) c.in_ok-last.last c.in_ok-first.first right of le
    top.0 at in
    row-span m row (trailing_zeros w32 row.word) c.in_ok-last.last
    (record { first = c.in_ok-first.first; last = c.in_ok-day_behind.field-0 }) right of low.0 low.1 top.0 top.1
    at (sym behind ∙ sym c.day_behind.ensures ∙ c.in_ok-day_behind.was)

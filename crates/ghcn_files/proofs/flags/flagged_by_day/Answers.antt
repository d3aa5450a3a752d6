use Rattle.std.proofs.Common.{◌≡◌, ◌≤◌, ◌+◌, ◌∙◌, ℕ, Bool, cond, List, ap, arith}
use Rattle.std.specs.List.{count_by, enumerate_from}
use Rattle.ghcn_files.specs.declared.month.Reading.{Reading}
use Rattle.ghcn_files.specs.Months.{reading}
use Rattle.ghcn_files.specs.Flags.{is_flagged_value}
use Rattle.ghcn_files.proofs.Readings.{all_days}
use Rattle.ghcn_files.proofs.FlaggedDays.{one_if-le, flagged_within-le, flagged_within-more}
use Rattle.ghcn_files.proofs.flags.flagged_by_day.Goals as goal

-- there are no more than the days so far
pub overflow_add-count : goal.overflow_add-count
overflow_add-count c =
    let few = flagged_within-le c.args.days c.args.line.now c.loop-day.day in
    let one : c.one_if-count.result ≤ 1 =
    one_if-le c.is_flagged_value.result c.one_if-count.result c.one_if-count.ensures in
    omega (arith, c.loop-day.invariant, few, one, c.loop-day-test.true)

-- one day more is counted if it is flagged
pub loop-day-preserved : goal.loop-day-preserved
loop-day-preserved c =
    let days : ℕ = c.args.days in
    let line : List ℕ = c.args.line.now in
    let day : ℕ = c.loop-day.day in
    let added : c.one_if-count.result ≡ cond (is_flagged_value days (day + 1, reading line (day + 1))) 1 0 =
    c.one_if-count.ensures ∙ ap (λ (b : Bool). cond b 1 0) c.is_flagged_value.ensures in
    omega (arith, c.loop-day.invariant, added, flagged_within-more days line day)

-- all days are counted
pub returns : goal.returns
returns c =
    c.loop-day.invariant
    ∙ ap (λ (rs : List Reading). count_by (is_flagged_value c.args.days) (enumerate_from 1 rs))
    (all_days c.args.line.now c.loop-day.day (omega (arith, c.loop-day-test.false)))

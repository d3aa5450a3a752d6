use Rattle.std.proofs.Common.{◌≡◌, true, false, map, length, sym, ◌∙◌, arith, ◌<◌, ◌+◌}
use Rattle.std.specs.Option.{is_some}
use Rattle.ghcn_fields.specs.Faults.{first_failing}
use Rattle.rank_scores.specs.Morsels.{all_candidates}
use Rattle.rank_papers.specs.ReportLines.{named_in}
use Rattle.rank_check.specs.Tests.{row_tests}
use Rattle.rank_check.proofs.Failing.{said_there, watched_at, fault_here, none_here}
use Rattle.rank_check.proofs.rows.rows_fault.Goals as goal

-- the first row with a test that fails
pub returns-then-is_some : goal.returns-then-is_some
returns-then-is_some c = λ q dataset same found.
    let place = c.loop-place.place in
    let names = map named_in c.args.rows.now in
    let within : place < length c.args.found.now.rows.items =
    omega (arith, c.requires.many, c.loop-place-test.true) in
    let said = c.row_fault-fault.ensures q dataset same
    (watched_at (all_candidates q dataset) c.args.rows.now c.args.found.now.rows.items place _ found.watched within
    c.index.ensures) in
    let there = said_there named_in (λ row. first_failing (row_tests q dataset names (place + 1, row))) c.args.rows.now
    place c.row_fault-fault.result said in
    let some : is_some c.row_fault-fault.result ≡ true = sym c.is_some.ensures ∙ c.if-is_some.true in
    fault_here (row_tests q dataset names) 1 names place (place + 1) there.0 c.row_fault-fault.result (omega arith) some
    there.1 (c.loop-place.invariant q dataset same found) there.2

-- one row more whose tests pass
pub loop-place-preserved : goal.loop-place-preserved
loop-place-preserved c = λ q dataset same found.
    let place = c.loop-place.place in
    let names = map named_in c.args.rows.now in
    let within : place < length c.args.found.now.rows.items =
    omega (arith, c.requires.many, c.loop-place-test.true) in
    let said = c.row_fault-fault.ensures q dataset same
    (watched_at (all_candidates q dataset) c.args.rows.now c.args.found.now.rows.items place _ found.watched within
    c.index.ensures) in
    let there = said_there named_in (λ row. first_failing (row_tests q dataset names (place + 1, row))) c.args.rows.now
    place c.row_fault-fault.result said in
    let none : is_some c.row_fault-fault.result ≡ false = sym c.is_some.ensures ∙ c.if-is_some.false in
    none_here (row_tests q dataset names) 1 names place (place + 1) there.0 c.row_fault-fault.result (omega arith) none
    there.1 (c.loop-place.invariant q dataset same found) there.2

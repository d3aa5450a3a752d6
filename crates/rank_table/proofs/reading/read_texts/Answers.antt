use Rattle.std.proofs.Common.{rules}
use Rattle.rank_table.specs.Reports.{placed_in}
use Rattle.rank_table.proofs.FilesRead.{found_next, refused_at}
use Rattle.rank_table.proofs.reading.read_texts.Goals as goal

-- the first file that is refused
pub returns-in_err-add_reports-clause-err : goal.returns-in_err-add_reports-clause-err
returns-in_err-add_reports-clause-err c =
    let told = refused_at (λ t. t.now) c.args.texts.now c.loop-place.place _ c.loop-place-test.true
    (placed_in c.loop-place.found.items) c.loop-place.invariant c.in_err-add_reports.field-0.0
    c.in_err-add_reports.ensures.err in
    search (rules, told)

-- one file more
pub loop-place-preserved : goal.loop-place-preserved
loop-place-preserved c =
    found_next (λ t. t.now) c.args.texts.now c.loop-place.place _ c.loop-place-test.true
    (placed_in c.loop-place.found.items) c.loop-place.invariant (placed_in c.add_reports.new.found.items)
    c.in_ok-add_reports.ensures.ok

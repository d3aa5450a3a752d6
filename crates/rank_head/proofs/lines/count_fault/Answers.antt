use Rattle.std.proofs.Common.{◌≡◌, List, ℕ, None, map, sym, ap, ◌∙◌}
use Rattle.ghcn_fields.specs.Faults.{first_failing}
use Rattle.rank_papers.specs.ReportLines.{named_in}
use Rattle.rank_papers.proofs.FirstFailing.{not_some, some_decides, none_decides}
use Rattle.rank_head.specs.HeadTests.{scanned_tests, matching_tests, count_tests}
use Rattle.rank_head.proofs.Tallies.{lent_back}
use Rattle.rank_head.proofs.lines.count_fault.Goals as goal

-- a row of no series that was scanned decides
pub returns-then-is_some : goal.returns-then-is_some
returns-then-is_some c =
    some_decides (scanned_tests c.args.lines.now (map named_in c.args.rows.now))
    (count_tests (map named_in c.args.rows.now) c.args.lines.now c.args.counts.now)
    c.scanned_fault-fault.result c.scanned_fault-fault.ensures.fault (sym c.is_some.ensures ∙ c.if-is_some.true)

-- or otherwise the counts do
pub returns : goal.returns
returns c =
    let none : c.scanned_fault-fault.result ≡ None =
    not_some c.scanned_fault-fault.result (sym c.is_some.ensures ∙ c.if-is_some.false) in
    let wanted : c.as_slice.result.now ≡ c.scanned_fault-fault.new.counts =
    c.as_slice.ensures.value ∙ lent_back c.scanned_fault-fault.new.counts _ _
    (c.scanned_fault-fault.auto.counts ∙ c.deref_mut.ensures.len) in
    c.miscount.ensures
    ∙ ap (λ (ns : List ℕ). first_failing (matching_tests c.args.counts.now ns))
    (wanted ∙ c.scanned_fault-fault.ensures.counts none)
    ∙ none_decides (scanned_tests c.args.lines.now (map named_in c.args.rows.now))
    (count_tests (map named_in c.args.rows.now) c.args.lines.now c.args.counts.now)
    c.scanned_fault-fault.result c.scanned_fault-fault.ensures.fault (sym c.is_some.ensures ∙ c.if-is_some.false)

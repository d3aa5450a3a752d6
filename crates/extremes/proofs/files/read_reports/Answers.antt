use Rattle.std.proofs.Common.{◌+◌, ◌∙◌, List, ℕ, map, take, true, ap, sym, subst, arith}
use Rattle.rank_input.specs.Named.{list_path}
use Rattle.rank_input.specs.Feeding.{AreAllOf, AreFilesOf, IsTried, StopsAt}
use Rattle.rank_input.proofs.Openings.{opened-all, opened-next, stops-next}
use Rattle.extremes.specs.Tables.{known_report, report_path, report_paths}
use Rattle.extremes.proofs.ReportsRead.{next-text}
use Rattle.extremes.proofs.files.read_reports.Goals as goal

-- one file more is read
pub loop-report-preserved : goal.loop-report-preserved
loop-report-preserved g c =
    let bytes_of = g.A.Archive.bytes_of c.args.archive.now in
    let opens = g.A.Archive.opens c.args.archive.now in
    let path = c.list_path-path.ensures ∙ ap (λ (p : List ℕ). list_path p) c.deref.ensures in
    record {
      read = subst (λ ts. AreFilesOf (map (known_report bytes_of) (take
          (c.loop-report.report-index + 1) c.args.reports.now))
          (map (λ t. t.items) ts)) (sym c.push_reserved.ensures.items)
          (next-text (known_report bytes_of) (λ t. t.items) c.args.reports.now c.loop-report.report-index
          c.report-item.result c.loop-report.texts.items c.in-Ok.text c.loop-report-test.true (sym c.report-item.is)
          c.loop-report.invariant.read
          (subst (λ (p : List ℕ). AreAllOf (bytes_of p) c.in-Ok.text.items) path c.in-Ok.ensures.whole));
      opened = opened-next opens report_path c.args.reports.now c.loop-report.report-index c.report-item.result
          c.loop-report-test.true (sym c.report-item.is) c.loop-report.invariant.opened
          (subst (λ (p : List ℕ). opens p true) path c.in-Ok.ensures.opened);
      count = omega (arith, c.push_reserved.ensures.len, c.loop-report.invariant.count);
      room = omega (arith, c.push_reserved.ensures.capacity, c.loop-report.invariant.room);
    }

-- a file can't be read
pub returns-in_default-clause-stopped : goal.returns-in_default-clause-stopped
returns-in_default-clause-stopped g c =
    let opens = g.A.Archive.opens c.args.archive.now in
    let path = c.list_path-path.ensures ∙ ap (λ (p : List ℕ). list_path p) c.deref.ensures in
    subst (λ (p : List ℕ). StopsAt opens (report_paths c.args.reports.now) p) (sym path)
    (stops-next opens report_path c.args.reports.now c.loop-report.report-index c.report-item.result
    c.loop-report-test.true (sym c.report-item.is) c.loop-report.invariant.opened
    (subst (λ (p : List ℕ). IsTried opens p) path c.read_whole.ensures.tried))

-- all files are opened
pub returns-clause-opened : goal.returns-clause-opened
returns-clause-opened g c =
    opened-all (g.A.Archive.opens c.args.archive.now) report_path c.args.reports.now c.loop-report.report-index
    (omega (arith, c.loop-report-test.false)) c.loop-report.invariant.opened

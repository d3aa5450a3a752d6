use Rattle.std.proofs.Common.{◌≡◌, ◌≤◌, length, take, map}
use Rattle.std.specs.Vec.{vec_capacity, vec_len}
use Rattle.rank_input.specs.Feeding.{AreFilesOf, AreOpened}
use Rattle.extremes.specs.Tables.{known_report, report_paths}
use Rattle.extremes.proofs.files.read_reports.Given as goal

-- the files so far are opened and read, and there is room for all of them
abbrev pub invariant-loop-report : goal.invariant-loop-report
invariant-loop-report g l = record {
  read : AreFilesOf (map (known_report (g.A.Archive.bytes_of l.archive)) (take l.report-index l.reports))
      (map (λ t. t.items) l.texts.items);
  opened : AreOpened (g.A.Archive.opens l.archive) (report_paths (take l.report-index l.reports));
  count : vec_len l.texts ≡ l.report-index;
  room : length l.reports ≤ vec_capacity l.texts;
}

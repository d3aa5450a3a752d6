use Rattle.std.proofs.Common.{sym, subst}
use Rattle.rank_input.specs.Feeding.{AreAllOf}
use Rattle.extremes.specs.PaperPaths.{certificate_path, report_path}
use Rattle.extremes.proofs.judge_each.add_verdict.Goals as goal

-- the report and the certificate are judged, and the line is added
pub returns-clause-ok : goal.returns-clause-ok
returns-clause-ok g c =
    let bytes_of = g.A.Archive.bytes_of c.args.archive.now in
    record {
      judgement = c.in_ok-judgement.judgement;
      judged = record {
        opened = c.in_ok-texts.ensures.opened;
        papers = (c.deref.result.now, c.deref-2.result.now);
        whole = (
          subst (AreAllOf (bytes_of (report_path c.args.papers.folder.now c.args.number))) (sym c.deref.ensures.value)
              c.in_ok-texts.ensures.read.0,
          subst (AreAllOf (bytes_of (certificate_path c.args.papers.folder.now c.args.number)))
              (sym c.deref-2.ensures.value) c.in_ok-texts.ensures.read.1,
        );
        judged = c.in_ok-judgement.ensures;
      };
      lines = c.in_ok-add_judgement.ensures.lines;
      ending = c.in_ok-add_judgement.ensures.ending;
    }

use Rattle.std.proofs.Common.{List, subst, sym}
use Rattle.ghcn_files.specs.declared.station.Station.{Station}
use Rattle.rank_scores.specs.declared.candidate.Candidate.{Candidate}
use Rattle.rank_scores.specs.QueryCandidates.{AreOfListed}
use Rattle.rank_papers.proofs.PlanPapers.{answer_listed, report-of_plan}
use Rattle.rank_papers.proofs.report_text.report.Goals as goal

-- the best of an answer belong to listed stations
pub report_of_best-requires : goal.report_of_best-requires
report_of_best-requires c =
    subst (λ (sts : List Station). AreOfListed sts c.deref.result.now) (sym c.stations.ensures)
    (subst (λ (cs : List Candidate). AreOfListed c.args.plan.now.stations cs) (sym c.deref.ensures.value)
    (answer_listed c.args.plan.now c.args.answer.now c.query.ensures.planned c.requires))

-- so their report is the plan's
pub returns : goal.returns
returns c =
    report-of_plan (λ paper. paper.items) c.args.plan.now c.args.answer.now c.query.result.now c.stations.result.now
    c.deref.result.now c.report_of_best.result c.requires c.query.ensures.query c.stations.ensures
    c.deref.ensures.value c.report_of_best.ensures.right

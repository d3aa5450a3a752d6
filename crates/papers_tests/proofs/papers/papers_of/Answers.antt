use Rattle.rank_papers.proofs.PlanPapers.{answer_of_crew}
use Rattle.papers_tests.proofs.papers.papers_of.Goals as goal

-- the answer of a run of one worker is one of its plan
pub report-requires : goal.report-requires
report-requires c = answer_of_crew _ _ _ _ c.in_ok-answer.ensures.answer

pub certificate-requires : goal.certificate-requires
certificate-requires c = answer_of_crew _ _ _ _ c.in_ok-answer.ensures.answer

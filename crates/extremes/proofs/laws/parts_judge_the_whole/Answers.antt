use Rattle.extremes.proofs.JudgedParts.{parts-judge-the-whole}
use Rattle.extremes.proofs.laws.parts_judge_the_whole.Goals as goal

-- by what is known of data
pub returns : goal.returns
returns c =
    parts-judge-the-whole c.data_are_right.ensures.held
    c.papers_are_found.ensures.report c.papers_are_found.ensures.certificate
    c.papers_are_said.ensures.report c.papers_are_said.ensures.certificate c.parts_make_the_whole.ensures.files

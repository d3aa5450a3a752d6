use Rattle.rank_check.proofs.AcceptedWhereRight.{accepted_right}
use Rattle.rank_check.proofs.laws.accepted_where_right.Goals as goal

-- by what is known of texts that are read
pub returns : goal.returns
returns c =
    accepted_right c.certificates_are_read.ensures.read c.certificates_are_read.ensures.right
    c.reports_are_read.ensures.read c.reports_are_read.ensures.right c.candidates_of_queries.ensures.apart

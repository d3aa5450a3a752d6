use Rattle.rank_parts.proofs.SaidInPieces.{right_in_pieces, accepted_in_pieces}
use Rattle.rank_parts.proofs.laws.right_in_pieces.Goals as goal

-- by what is known of the candidates of queries
pub returns-clause-says : goal.returns-clause-says
returns-clause-says c = right_in_pieces c.candidates_of_queries.ensures.apart

-- and of texts that are read
pub returns-clause-accepted : goal.returns-clause-accepted
returns-clause-accepted c =
    accepted_in_pieces c.certificates_are_read.ensures.read c.certificates_are_read.ensures.right
    c.reports_are_read.ensures.read c.reports_are_read.ensures.right c.accepted_where_right.ensures
    (right_in_pieces c.candidates_of_queries.ensures.apart)

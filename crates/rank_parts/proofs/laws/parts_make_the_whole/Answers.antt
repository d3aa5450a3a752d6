use Rattle.rank_parts.proofs.WholePapers.{whole, of_files}
use Rattle.rank_parts.proofs.laws.parts_make_the_whole.Goals as goal

-- parts of data
pub returns-clause-data : goal.returns-clause-data
returns-clause-data c =
    whole c.certificates_are_read.ensures.read c.certificates_are_read.ensures.right c.reports_are_read.ensures.read
    c.reports_are_read.ensures.right c.heads_are_right.ensures.right c.right_in_pieces.ensures.says

-- parts of files
pub returns-clause-files : goal.returns-clause-files
returns-clause-files c = of_files (returns-clause-data c) c.files_in_parts.ensures.cut c.data_are_right.ensures.held

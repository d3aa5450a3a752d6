use Rattle.rank_input.proofs.TakenShares.{fed_share}
use Rattle.rank_input.proofs.shares.fill.Goals as goal

-- all files are fed
pub returns-clause-taken : goal.returns-clause-taken
returns-clause-taken g c = λ keep text was.
    fed_share g.L.LineReader.has_read (g.A.Archive.bytes_of c.args.archive.now)
    (g.A.Archive.opens c.args.archive.now) keep text c.args.paths.now c.args.intake c.feed_files.new.intake was
    c.in_ok-feed_files.ensures.fed c.in_ok-feed_files.ensures.opened

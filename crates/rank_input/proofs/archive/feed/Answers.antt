use Rattle.rank_input.proofs.Feedings.{fed-whole}
use Rattle.rank_input.proofs.archive.feed.Goals as goal

-- all is fed, and then the file's end
pub returns-clause-fed : goal.returns-clause-fed
returns-clause-fed g c =
    fed-whole g.L.LineReader.has_read c.args.intake.now c.feed_bytes.new.intake c.end_of_file.new.self
    (g.S.Read.remaining c.args.source.now) c.in_ok-feed_bytes.ensures.fed c.end_of_file.ensures.taken

use Rattle.std.proofs.Common.{ℕ, sym, subst}
use Rattle.std.specs.Prelude.{Option}
use Rattle.rank_input.specs.Shares.{TakesStretch}
use Rattle.rank_input.proofs.TakenStretches.{bytes_taken, fed_bytes, fed_to_end}
use Rattle.rank_input.proofs.stretches.fill_stretch.Goals as goal

-- all bytes up to the file's end are fed, and then its end
pub returns-in_ok-feed-in-None : goal.returns-in_ok-feed-in-None
returns-in_ok-feed-in-None g c = λ keep text was.
    let has_read = g.L.LineReader.has_read in
    let bytes_of = g.A.Archive.bytes_of c.args.archive.now in
    let opens = g.A.Archive.opens c.args.archive.now in
    subst (λ (count : Option ℕ). TakesStretch has_read bytes_of opens keep text c.args.path.now
    c.args.from count c.feed.new.intake) (sym c.in-None.is)
    (fed_to_end has_read bytes_of opens keep text c.args.path.now c.args.from c.args.intake
    c.feed.new.intake (g.A.File.Read.remaining c.in_ok-file.file) was c.in_ok-file.ensures.bytes
    c.in_ok-file.ensures.opened c.in_ok-feed-in-None.ensures.fed)

-- this many bytes are fed
pub returns-else-limit-gt0 : goal.returns-else-limit-gt0
returns-else-limit-gt0 g c = λ keep text was.
    let has_read = g.L.LineReader.has_read in
    let bytes_of = g.A.Archive.bytes_of c.args.archive.now in
    let opens = g.A.Archive.opens c.args.archive.now in
    subst (λ (count : Option ℕ). TakesStretch has_read bytes_of opens keep text c.args.path.now
    c.args.from count c.feed_bytes.new.intake) (sym c.in-Some.is)
    (fed_bytes has_read bytes_of opens keep text c.args.path.now c.args.from c.in-Some.count
    c.args.intake c.feed_bytes.new.intake (g.A.File.Read.remaining c.in_ok-file.file) _ was
    c.in_ok-file.ensures.bytes
    (bytes_taken g.A.File.Read.remaining c.take-stretch.result c.in_ok-file.file c.in-Some.count
    c.take-stretch.ensures.limit c.take-stretch.ensures.inner)
    c.in_ok-file.ensures.opened c.in_ok-feed_bytes-in-Some.ensures.fed)

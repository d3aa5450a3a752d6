use Rattle.std.proofs.Common.{subst}
use Rattle.std.specs.Prelude.{Option, IfSome}
use Rattle.std.proofs.lemmas.Option.{IfSome_then}
use Rattle.rank_input.specs.declared.intake.Intake.{Intake}
use Rattle.rank_input.specs.Shares.{TakesWhole}
use Rattle.rank_input.proofs.TakenShares.{joined_shares, shares_alike}
use Rattle.rank_input.proofs.shares.+fn-take_parts-join+arg2+fn-take_parts-join+arg3+take_parts.Goals as goal

-- both shares are of one station list
pub join-requires : goal.join-requires
join-requires g t c =
    let text = c.requires.list.0 in
    let whole = TakesWhole g.L.LineReader.has_read (g.A.Archive.bytes_of c.args.archive.now)
    (g.A.Archive.opens c.args.archive.now) c.args.keep text in
    shares_alike g.L.LineReader.has_read (g.A.Archive.bytes_of c.args.archive.now)
    (g.A.Archive.opens c.args.archive.now) c.args.keep text
    c.split_at.result.0.now c.split_at.result.1.now c.in_ok-first.field-0 c.in_ok-last.field-0
    (subst (λ (o : Option (Intake _)). IfSome o (whole c.split_at.result.0.now)) c.in_ok-first.was
    (c.join-last.ensures.second text c.requires.list.1))
    (subst (λ (o : Option (Intake _)). IfSome o (whole c.split_at.result.1.now)) c.in_ok-last.was
    (c.join-last.ensures.first text c.requires.list.1))

-- the files of both shares are all files
pub returns : goal.returns
returns g t c = λ text is.
    let whole = TakesWhole g.L.LineReader.has_read (g.A.Archive.bytes_of c.args.archive.now)
    (g.A.Archive.opens c.args.archive.now) c.args.keep text in
    let one = subst (λ (o : Option (Intake _)). IfSome o (whole c.split_at.result.0.now)) c.in_ok-first.was
    (c.join-last.ensures.second text is) in
    let two = subst (λ (o : Option (Intake _)). IfSome o (whole c.split_at.result.1.now)) c.in_ok-last.was
    (c.join-last.ensures.first text is) in
    IfSome_then c.join.result c.join.ensures.joined (λ both joins.
    joined_shares g.L.LineReader.has_read (g.A.Archive.bytes_of c.args.archive.now)
    (g.A.Archive.opens c.args.archive.now) c.args.keep text c.args.paths.now
    c.split_at.result.0.now c.split_at.result.1.now c.cut_back-from.result.0 c.in_ok-first.field-0 c.in_ok-last.field-0 both
    c.split_at.ensures.front c.split_at.ensures.back one two joins)

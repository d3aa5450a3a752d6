use Rattle.std.proofs.Common.{refl}
use Rattle.std.proofs.lemmas.Bool.{OnTrue_at, OnFalse_at}
use Rattle.ghcn_series.proofs.JoinedReads.{as_many, reads_joined, reads-apart}
use Rattle.ghcn_series.proofs.reader.ReaderJoinLines.join.Goals as goal

-- both have the same stations
pub join-requires : goal.join-requires
join-requires c = as_many c.args.self c.args.next c.requires.stations c.requires.keep c.requires.lines c.requires.more
    c.requires.of_first c.requires.of_next

-- one of them has months in both
pub returns-then-not-is_joined-clause-apart : goal.returns-then-not-is_joined-clause-apart
returns-then-not-is_joined-clause-apart c =
    reads-apart c.args.self c.args.next (OnFalse_at c.if-not-is_joined.true c.in_ok-is_joined.ensures.apart)

-- or what both have read is read
pub returns-clause-joined : goal.returns-clause-joined
returns-clause-joined c = reads_joined c.args.self c.args.next _ refl refl c.saturating_add.ensures
    (OnTrue_at c.if-not-is_joined.false c.in_ok-is_joined.ensures.joined)

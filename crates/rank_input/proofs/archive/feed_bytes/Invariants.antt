use Rattle.rank_input.proofs.Feedings.{IsFedTo}
use Rattle.rank_input.proofs.archive.feed_bytes.Given as goal

-- what was read so far is fed
abbrev pub invariant-loop : goal.invariant-loop
invariant-loop g l =
    IsFedTo g.L.LineReader.has_read l.initial.intake l.intake (g.S.Read.remaining l.initial.source)
    (g.S.Read.remaining l.source)

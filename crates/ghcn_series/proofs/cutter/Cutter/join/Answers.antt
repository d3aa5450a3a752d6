use Rattle.std.proofs.Common.{◌+◌, refl, ap, ◌∙◌}
use Rattle.ghcn_series.proofs.JoinedCutters.{cutters_joined, going-joined, readers-alike, apart-shared}
use Rattle.ghcn_series.proofs.cutter.Cutter.join.Goals as goal

-- both readers have read lines for the same stations
pub join-requires : goal.join-requires
join-requires g c = let go = c.if-not-goes_on_with.ensures in readers-alike c.args.self c.args.next go.0 go.1 c.requires

-- a listed station has months in both
pub returns-in_default-clause-apart : goal.returns-in_default-clause-apart
returns-in_default-clause-apart g c =
    apart-shared c.args.self c.args.next (rw c.in_default.is at c.in_ok-reader.ensures.apart)

-- or the files of both were fed
pub returns-clause-joined : goal.returns-clause-joined
returns-clause-joined g c =
    let go = c.if-not-goes_on_with.ensures in
    let added = rw c.in_ok-ok_or-2.ensures.ok_part at c.checked_add-line.ensures in
    cutters_joined c.args.self c.args.next _ _ go.0 go.1 go.2 go.3
    (rw c.in-Some.is at c.in_ok-reader.ensures.joined) refl (rw c.in_ok-ok_or.ensures.ok_part at c.join-counts.ensures)
    c.saturating_add.ensures c.goes_on.ensures (added.1 ∙ ap (λ n. n + c.args.next.line) c.lines_if.ensures) refl refl

-- and more can follow
pub returns-clause-going : goal.returns-clause-going
returns-clause-going g c = going-joined c.args.self c.args.next _ (returns-clause-joined g c) c.requires

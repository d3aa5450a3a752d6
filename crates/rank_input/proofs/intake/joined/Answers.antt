use Rattle.std.proofs.Common.{inl, inr}
use Rattle.std.proofs.lemmas.Result.{err_from_is_err_and}
use Rattle.rank_input.proofs.Joinings.{cutters_alike, cutters_joined, cutters_apart, refused_by, out_of_memory}
use Rattle.rank_input.proofs.intake.joined.Goals as goal

-- the error before the daily files is that of the first intake
pub returns-in_err-cutter-clause-joined : goal.returns-in_err-cutter-clause-joined
returns-in_err-cutter-clause-joined g c =
    let p = err_from_is_err_and c.from_residual.result c.from_residual.ensures.1 in
    rw (p.1, p.2) (refused_by g.L.LineReader.has_read c.args.first c.args.next c.in_err-cutter.field-0.0
    (inl c.in_err-cutter.was))

-- or that of the next one
pub returns-in_err-other-clause-joined : goal.returns-in_err-other-clause-joined
returns-in_err-other-clause-joined g c =
    let p = err_from_is_err_and c.from_residual-in_err-other.result c.from_residual-in_err-other.ensures.1 in
    rw (p.1, p.2) (refused_by g.L.LineReader.has_read c.args.first c.args.next c.in_err-other.field-0.0
    (inr c.in_err-other.was))

-- both cutters were fed for the same stations
pub join-requires : goal.join-requires
join-requires g c =
    cutters_alike g.L.LineReader.has_read c.args.first c.args.next c.in_ok-cutter.cutter c.in_ok-other.other
    c.in_ok-cutter.was c.in_ok-other.was c.requires

-- memory may run out
pub returns-in_err-join-clause-joined : goal.returns-in_err-join-clause-joined
returns-in_err-join-clause-joined g c =
    let p = err_from_is_err_and c.from_residual-in_err-join.result c.from_residual-in_err-join.ensures.1 in
    rw (p.1, p.2) (out_of_memory g.L.LineReader.has_read c.args.first c.args.next c.in_err-join.field-0.0)

-- what both were given is read by one
pub returns-clause-joined : goal.returns-clause-joined
returns-clause-joined g c =
    cutters_joined g.L.LineReader.has_read c.args.first c.args.next c.in_ok-cutter.cutter c.in_ok-other.other
    c.in_ok-join.field-0 c.in_ok-cutter.was c.in_ok-other.was c.in_ok-join.ensures.joined

-- or both stay apart
pub returns-clause-apart : goal.returns-clause-apart
returns-clause-apart g c =
    cutters_apart g.L.LineReader.has_read c.args.first c.args.next c.in_ok-cutter.cutter c.in_ok-other.other
    c.in_ok-join.field-0 c.in_ok-cutter.was c.in_ok-other.was c.in_ok-join.ensures.apart

use Rattle.rank_merge.proofs.Cited.{rules}
use Rattle.rank_merge.proofs.ReadParts.{gathered_next, refused_at}
use Rattle.rank_merge.proofs.gathering.read_parts.Goals as goal

-- the first part that is refused
pub returns-in_err-papers-clause-err : goal.returns-in_err-papers-clause-err
returns-in_err-papers-clause-err c =
    let told = refused_at c.args.query.now (λ p. (p.0.now, p.1.now)) c.args.parts.now c.loop-place.place _
    c.loop-place-test.true c.loop-place.all c.in_err-papers.field-0.0 c.loop-place.invariant
    c.in_err-papers.ensures.err in
    search (rules, told)

-- one part more
pub loop-place-preserved : goal.loop-place-preserved
loop-place-preserved c =
    gathered_next c.args.query.now (λ p. (p.0.now, p.1.now)) c.args.parts.now c.loop-place.place _
    c.loop-place-test.true c.in_ok-papers.papers c.loop-place.all c.add.new.self c.loop-place.invariant
    c.in_ok-papers.ensures.ok (rw c.k.ensures.k at c.in_ok-add.ensures.rows)
    (rw c.k.ensures.k at c.in_ok-add.ensures.floor) c.in_ok-add.ensures.lines

use Rattle.rank_parts.proofs.Cited.{List, map, sym, subst, Row, named_in, reported_in, certified_in, IdsRise, AreSeen}
use Rattle.rank_parts.proofs.LineReasons.{head_shows}
use Rattle.rank_parts.proofs.judge.judge.Goals as goal

-- the head is right
pub lines_fault-requires : goal.lines_fault-requires
lines_fault-requires c = let q = c.args.query.now in
    let head = (c.in_ok-fault.ensures.right c.requires.report c.requires.certificate).0 c.in_default.is in
    subst (λ (rows : List Row). AreSeen q (map named_in rows) c.as_slice-lines.result.now)
    (sym c.as_slice-rows.ensures.value)
    (subst (AreSeen q (map named_in c.args.report.now.rows.items)) (sym c.as_slice-lines.ensures.value)
    (head_shows q (reported_in c.args.report.now) (certified_in c.args.certificate.now) c.requires.report head))

-- its lines rise
pub series_with_lines-requires : goal.series_with_lines-requires
series_with_lines-requires c =
    let head = (c.in_ok-fault.ensures.right c.requires.report c.requires.certificate).0 c.in_default.is in
    subst IdsRise (sym c.as_slice-lines.ensures.value) head.rise

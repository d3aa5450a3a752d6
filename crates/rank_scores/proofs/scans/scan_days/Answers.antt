use Rattle.std.proofs.Common.{ap, ◌∙◌}
use Rattle.std.specs.List.{fold}
use Rattle.rank_scores.specs.Meaning.Candidates.{Days}
use Rattle.rank_scores.specs.Candidates.{contenders_among}
use Rattle.rank_scores.specs.Extremes.{score_by}
use Rattle.rank_scores.proofs.LowDays.{takes-part}
use Rattle.rank_scores.proofs.scans.scan_days.Goals as goal

-- a part's days are offered
pub loop-part-preserved-then-not-is_passed_over : goal.loop-part-preserved-then-not-is_passed_over
loop-part-preserved-then-not-is_passed_over g c =
    let kept = c.is_passed_over.ensures.kept c.if-not-is_passed_over.true in
    takes-part g.S.Sink.taken c.loop-part.sink c.offer_days.new.sink c.args.id (score_by c.args.extreme)
    c.loop-part.admitted c.in-Some.part c.next_part.new.self
    c.in-Some.ensures.some
    (c.offer_days.ensures
    ∙ ap (λ s. fold g.S.Sink.taken s (contenders_among c.args.id (Days (score_by c.args.extreme)) c.in-Some.part)) kept)
    ∙ c.loop-part.invariant

-- or given by their number
pub loop-part-preserved : goal.loop-part-preserved
loop-part-preserved g c =
    takes-part g.S.Sink.taken c.loop-part.sink c.is_passed_over.new.sink c.args.id (score_by c.args.extreme)
    c.loop-part.admitted c.in-Some.part c.next_part.new.self
    c.in-Some.ensures.some
    (c.is_passed_over.ensures.passed c.args.id c.if-not-is_passed_over.false)
    ∙ c.loop-part.invariant

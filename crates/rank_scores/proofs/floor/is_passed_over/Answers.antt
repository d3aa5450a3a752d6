use Rattle.std.proofs.Common.{◌∙◌, sym, subst, w64, FitsSigned, rules}
use Rattle.std.proofs.lemmas.Int.{to_z-of_z}
use Rattle.rank_scores.specs.Extremes.{score_by}
use Rattle.rank_scores.specs.Meaning.Candidates.{Days}
use Rattle.rank_scores.specs.Candidates.{contenders_among}
use Rattle.rank_scores.proofs.LowDays.{as-many, all-low}
use Rattle.rank_scores.proofs.floor.is_passed_over.Goals as goal

-- the days' candidates score less than the floor, and are as many as the days
pub returns-clause-passed : goal.returns-clause-passed
returns-clause-passed g c id is =
    c.pass_over.ensures (contenders_among id (Days (score_by c.args.extreme)) c.args.part.now)
    (all-low id (score_by c.args.extreme) _ c.args.part.now (c.may_reach.ensures c.if-may_reach.false))
    (as-many id (score_by c.args.extreme) c.args.part.now ∙ sym c.len.ensures)

-- the floor is the sink's
pub pass_over-requires : goal.pass_over-requires
pass_over-requires g c =
    let near : FitsSigned w64 c.in-Some.floor = search rules in
    subst (g.S.FloorSink.is_floor c.args.sink.now) (sym (to_z-of_z w64 c.in-Some.floor near)) c.in-Some.ensures

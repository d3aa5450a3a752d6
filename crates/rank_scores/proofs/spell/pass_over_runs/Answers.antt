use Rattle.std.proofs.Common.{w64, FitsSigned, rules}
use Rattle.std.proofs.lemmas.Int.{to_z-of_z}
use Rattle.rank_scores.proofs.AddedRuns.{above-block, runs-passed}
use Rattle.rank_scores.proofs.spell.pass_over_runs.Goals as goal

-- the runs before the last one are taken by their number
pub returns-in-Some : goal.returns-in-Some
returns-in-Some g c = λ id.
    let near : FitsSigned w64 c.in-Some.floor = search rules in
    runs-passed g.S.Sink.taken id c.args.sink.now c.pass_over.new.self c.in-Some.floor
    c.take_to_last_run-passed.result c.args.part.now c.take_to_last_run-passed.new.self
    c.take_to_last_run-passed.ensures
    (above-block c.in-Some.floor (rw (to_z-of_z w64 c.in-Some.floor near) at c.if-floor-gt-BLOCK_DAYS.true))
    (rw (to_z-of_z w64 c.in-Some.floor near) at c.pass_over.ensures)

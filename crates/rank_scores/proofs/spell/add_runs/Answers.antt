use Rattle.rank_scores.specs.Spells.{spell_in}
use Rattle.rank_scores.proofs.AddedRuns.{alike-on, run-taken}
use Rattle.rank_scores.proofs.spell.add_runs.Goals as goal

-- the next run is added
pub loop-first-preserved : goal.loop-first-preserved
loop-first-preserved g c =
    alike-on g.S.Sink.taken c.args.id c.loop-first.invariant
    (run-taken g.S.Sink.taken c.args.id c.loop-first.sink c.add_run.new.sink (spell_in c.loop-first.run)
    (spell_in c.add_run.new.run) _ c.loop-first.part c.next_run.new.self c.in-Some.ensures.run c.add_run.ensures.begun
    c.add_run.ensures.offered)

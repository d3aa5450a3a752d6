use Rattle.std.proofs.Common.{◌≡◌, List, [], ℤ, Option, subst}
use Rattle.ghcn_series.specs.Meaning.Series.{DayValue}
use Rattle.rank_scores.specs.Spells.{spell_in, EndAlike}
use Rattle.rank_scores.proofs.AddedRuns.{alike-on, run-taken, some-day, spell-ended}
use Rattle.rank_scores.proofs.spell.add_runs_to_floor.Goals.{After-add_run}
use Rattle.rank_scores.proofs.spell.add_runs_to_floor.Goals as goal

-- the first run is added
first_added : (g : _) (c : After-add_run g) → EndAlike g.S.Sink.taken c.args.id
    (c.args.sink.now, (spell_in c.args.run.now, c.args.part))
    (c.add_run.new.sink, (spell_in c.add_run.new.run, c.next_run.new.self))
first_added g c =
    run-taken g.S.Sink.taken c.args.id c.args.sink.now c.add_run.new.sink (spell_in c.args.run.now)
    (spell_in c.add_run.new.run) _ c.args.part c.next_run.new.self c.in-Some.ensures.run c.add_run.ensures.begun
    c.add_run.ensures.offered

-- there is no other
pub returns-then-is_empty : goal.returns-then-is_empty
returns-then-is_empty g c =
    let none : c.next_run.new.self ≡ [] = c.is_empty.ensures.0 c.if-is_empty.true in
    subst (λ (l : List DayValue). EndAlike g.S.Sink.taken c.args.id
    (c.args.sink.now, (spell_in c.args.run.now, c.args.part)) (c.add_run.new.sink, (spell_in c.add_run.new.run, l)))
    none (first_added g (goal.at.returns-then-is_empty g c).After-add_run)

-- the spell is offered, then come the runs that are passed over, and the last one
pub returns : goal.returns
returns g c =
    let some = some-day c.next_run.new.self c.is_empty.result c.is_empty.ensures c.if-is_empty.false in
    let ended = spell-ended g.S.Sink.taken c.args.id c.add_run.new.sink c.offer_spell.new.sink
    (spell_in c.add_run.new.run) _ _ c.next_run.new.self some c.in-Some.ensures.run.apart c.add_run.ensures.begun
    c.offer_spell.ensures in
    let added = subst (λ (now : Option (ℤ × ℤ)). EndAlike g.S.Sink.taken c.args.id
    (c.pass_over_runs.new.sink, (now, c.pass_over_runs.new.part))
    (c.add_runs.new.sink, (spell_in c.add_runs.new.run, []))) c.none.ensures c.add_runs.ensures in
    alike-on g.S.Sink.taken c.args.id (first_added g (goal.at.returns g c).After-add_run)
    (alike-on g.S.Sink.taken c.args.id ended
    (alike-on g.S.Sink.taken c.args.id (c.pass_over_runs.ensures c.args.id) added))

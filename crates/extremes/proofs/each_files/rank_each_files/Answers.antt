use Rattle.std.proofs.Common.{ℕ, true, List, Global, String, map, refl, sym, subst}
use Rattle.std.specs.Prelude.{Option, string_bytes}
use Rattle.std.proofs.lemmas.Result.{err_from_is_err_and}
use Rattle.ghcn_series.specs.Gathered.{HasReadByRows}
use Rattle.rank_input.specs.Feeding.{IsTried, StopsAt}
use Rattle.rank_input.specs.Shares.{TakesWhole}
use Rattle.rank_input.specs.Takes.{file_input}
use Rattle.rank_input.proofs.Openings.{stops-first, stops-later}
use Rattle.extremes.specs.Each.{EndsTaken}
use Rattle.extremes.specs.EachRuns.{each_paths}
use Rattle.extremes.specs.Targets.{ArePut}
use Rattle.extremes.proofs.EachRuns.{ranks-each, ranks-each-memory}
use Rattle.extremes.proofs.each_files.rank_each_files.Goals as goal

-- there is no room for a piece
pub returns-in_default-piece_room-clause-ranks : goal.returns-in_default-piece_room-clause-ranks
returns-in_default-piece_room-clause-ranks g c = λ lines asks.
    rw c.none_ranked.ensures (ranks-each-memory (g.A.Archive.bytes_of c.args.archive.now)
    (g.A.Archive.opens c.args.archive.now)
    (ArePut g.T.Target.creates g.T.Target.abandons g.T.Write.contents c.args.target.now c.args.target.now)
    c.args.ranking.now c.deref.result.now c.in-Ok.ensures.list.text c.deref.ensures c.in-Ok.ensures.list.all _
    c.none_ranked.result.warnings c.none_ranked.result.unlisted lines refl)

-- the intake was given the files
pub rank_each-requires-clause-taken : goal.rank_each-requires-clause-taken
rank_each-requires-clause-taken g c κs within =
    let taken = c.in_ok-intake.ensures.taken c.in-Ok.ensures.list.text c.in-Ok.ensures.list.is in
    (file_input c.needed_by.result c.in-Ok.ensures.list.text taken.files, taken.taken)

-- what was taken is ranked for each query
pub returns-clause-ranks : goal.returns-clause-ranks
returns-clause-ranks g c = λ lines asks.
    let bytes_of = g.A.Archive.bytes_of c.args.archive.now in
    let opens = g.A.Archive.opens c.args.archive.now in
    let stores = ArePut g.T.Target.creates g.T.Target.abandons g.T.Write.contents c.args.target.now
    c.rank_each.new.target in
    ranks-each bytes_of opens stores c.args.ranking.now c.deref.result.now c.in-Ok.ensures.list.text
    c.deref.ensures c.in-Ok.ensures.list.all
    c.in_ok-intake.intake c.args.queries.now c.needed_by.result c.workers_for-started.result c.rank_each.result.reports
    c.rank_each.result.warnings c.rank_each.result.unlisted c.needed_by.ensures.own c.requires
    c.workers_for-started.ensures.few
    (subst (λ (fs : List (String Global)). TakesWhole HasReadByRows bytes_of opens c.needed_by.result
    c.in-Ok.ensures.list.text fs c.in_ok-intake.intake) c.deref-2.ensures.value
    (c.in_ok-intake.ensures.taken c.in-Ok.ensures.list.text c.in-Ok.ensures.list.is))
    (subst (λ (f : Option (List ℕ)). EndsTaken c.in_ok-intake.intake c.args.queries.now c.workers_for-started.result f
    stores c.rank_each.result.reports) c.folder_of-folder.ensures c.rank_each.ensures.ends)
    c.rank_each.ensures.warnings c.in-Ok.ensures.opened lines asks

-- the station list can't be read
pub returns-in_default-clause-stopped : goal.returns-in_default-clause-stopped
returns-in_default-clause-stopped g c =
    let opens = g.A.Archive.opens c.args.archive.now in
    subst (λ (p : List ℕ). StopsAt opens (each_paths c.args.ranking.now) p) (sym c.deref-in_default.ensures)
    (stops-first opens (string_bytes c.args.ranking.now.stations) _
    (subst (λ (p : List ℕ). IsTried opens p) c.deref.ensures c.read_station_list.ensures.tried))

-- or a daily file can't be
pub returns-in_err-intake-clause-stopped : goal.returns-in_err-intake-clause-stopped
returns-in_err-intake-clause-stopped g c =
    let opens = g.A.Archive.opens c.args.archive.now in
    let p = err_from_is_err_and c.from_residual.result c.from_residual.ensures.1 in
    rw (p.1, p.2) (stops-later opens (string_bytes c.args.ranking.now.stations) _ _
    (subst (λ (l : List ℕ). opens l true) c.deref.ensures c.in-Ok.ensures.opened)
    (subst (λ (fs : List (String Global)). StopsAt opens (map string_bytes fs) c.in_err-intake.field-0.0.now)
    c.deref-2.ensures.value c.in_err-intake.ensures.stopped))

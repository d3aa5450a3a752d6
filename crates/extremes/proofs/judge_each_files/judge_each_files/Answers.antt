use Rattle.std.proofs.Common.{ℕ, true, List, Global, String, map, refl, sym, subst}
use Rattle.std.specs.Prelude.{string_bytes}
use Rattle.std.proofs.lemmas.Result.{err_from_is_err_and}
use Rattle.ghcn_series.specs.Gathered.{HasReadByRows}
use Rattle.rank_input.specs.Feeding.{IsTried, StopsAt}
use Rattle.rank_input.specs.Shares.{TakesWhole}
use Rattle.rank_input.specs.Takes.{file_input}
use Rattle.rank_input.proofs.Openings.{stops-first, stops-later}
use Rattle.extremes.specs.JudgeEachRuns.{data_paths}
use Rattle.extremes.proofs.JudgeEachRuns.{judges-each, judges-each-memory}
use Rattle.extremes.proofs.judge_each_files.judge_each_files.Goals as goal

-- there is no room for a piece
pub returns-in_default-piece_room-clause-judges : goal.returns-in_default-piece_room-clause-judges
returns-in_default-piece_room-clause-judges g c = λ lines asks.
    judges-each-memory (g.A.Archive.bytes_of c.args.archive.now) (g.A.Archive.opens c.args.archive.now)
    c.args.judging.now c.deref.result.now c.in-Ok.ensures.list.text c.deref.ensures c.in-Ok.ensures.list.all (record {}) lines

-- the intake was given the files
pub judge_each-requires : goal.judge_each-requires
judge_each-requires g c =
    let taken = c.in_ok-intake.ensures.taken c.in-Ok.ensures.list.text c.in-Ok.ensures.list.is in
    (c.type_bounds.sync-R, (file_input c.needed_by.result c.in-Ok.ensures.list.text taken.files, taken.taken))

-- the report and the certificate of each query are checked against what was taken
pub returns-clause-judges : goal.returns-clause-judges
returns-clause-judges g c = λ lines asks.
    let bytes_of = g.A.Archive.bytes_of c.args.archive.now in
    let opens = g.A.Archive.opens c.args.archive.now in
    judges-each bytes_of opens c.args.judging.now c.deref.result.now c.in-Ok.ensures.list.text
    c.deref.ensures c.in-Ok.ensures.list.all
    c.in_ok-intake.intake c.args.queries.now c.needed_by.result c.args.judging.now.part c.deref-3.result.now
    c.judge_each.result refl c.deref-3.ensures c.needed_by.ensures.own
    (subst (λ (fs : List (String Global)). TakesWhole HasReadByRows bytes_of opens c.needed_by.result
    c.in-Ok.ensures.list.text fs c.in_ok-intake.intake) c.deref-2.ensures.value
    (c.in_ok-intake.ensures.taken c.in-Ok.ensures.list.text c.in-Ok.ensures.list.is))
    c.judge_each.ensures c.in-Ok.ensures.opened lines asks

-- the station list can't be read
pub returns-in_default-clause-stopped : goal.returns-in_default-clause-stopped
returns-in_default-clause-stopped g c =
    let opens = g.A.Archive.opens c.args.archive.now in
    subst (λ (p : List ℕ). StopsAt opens (data_paths c.args.judging.now) p) (sym c.deref-in_default.ensures)
    (stops-first opens (string_bytes c.args.judging.now.stations) _
    (subst (λ (p : List ℕ). IsTried opens p) c.deref.ensures c.read_station_list.ensures.tried))

-- or a daily file can't be
pub returns-in_err-intake-clause-stopped : goal.returns-in_err-intake-clause-stopped
returns-in_err-intake-clause-stopped g c =
    let opens = g.A.Archive.opens c.args.archive.now in
    let p = err_from_is_err_and c.from_residual.result c.from_residual.ensures.1 in
    rw (p.1, p.2) (stops-later opens (string_bytes c.args.judging.now.stations) _ _
    (subst (λ (l : List ℕ). opens l true) c.deref.ensures c.in-Ok.ensures.opened)
    (subst (λ (fs : List (String Global)). StopsAt opens (map string_bytes fs) c.in_err-intake.field-0.0.now)
    c.deref-2.ensures.value c.in_err-intake.ensures.stopped))

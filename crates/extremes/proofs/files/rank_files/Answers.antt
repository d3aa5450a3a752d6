use Rattle.std.proofs.Common.{ℕ, true, List, Global, String, map, sym, subst}
use Rattle.std.specs.Prelude.{string_bytes}
use Rattle.rank_input.specs.Feeding.{IsTried, StopsAt}
use Rattle.rank_input.specs.Shares.{AsksWhole}
use Rattle.rank_input.proofs.Openings.{stops-first, stops-later}
use Rattle.std.proofs.lemmas.Result.{err_from_is_err_and}
use Rattle.extremes.specs.Runs.{ranking_paths}
use Rattle.extremes.proofs.FedRuns.{ranks-files, ranks-memory}
use Rattle.extremes.proofs.files.rank_files.Goals as goal

-- there is no room for a piece
pub returns-in_default-piece_room-clause-ranks : goal.returns-in_default-piece_room-clause-ranks
returns-in_default-piece_room-clause-ranks g c =
    rw c.without_data.ensures (ranks-memory (g.A.Archive.bytes_of c.args.archive.now) (g.A.Archive.opens c.args.archive.now) c.args.ranking.now
    c.deref.result.now
    c.in-Ok.ensures.list.text _ c.deref.ensures c.in-Ok.ensures.list.all c.without_data.result.warnings)

-- what was asked and taken is ranked
pub returns-clause-ranks : goal.returns-clause-ranks
returns-clause-ranks g c =
    let bytes_of = g.A.Archive.bytes_of c.args.archive.now in
    let opens = g.A.Archive.opens c.args.archive.now in
    ranks-files bytes_of opens c.args.ranking.now c.in_ok-question.question c.deref-2.result.now c.deref.result.now
    c.in-Ok.ensures.list.text c.rank_fed.result.answer c.rank_fed.result.warnings c.deref-2.ensures c.deref.ensures
    c.in-Ok.ensures.list.all
    (subst (λ (fs : List (String Global)). AsksWhole bytes_of opens c.deref-2.result.now c.in-Ok.ensures.list.text fs
    c.in_ok-question.question) c.deref-3.ensures.value
    (c.in_ok-question.ensures.asked c.in-Ok.ensures.list.text c.in-Ok.ensures.list.is))
    c.rank_fed.ensures.ranks c.rank_fed.ensures.warnings c.in-Ok.ensures.opened

-- the station list can't be read
pub returns-in_default-clause-stopped : goal.returns-in_default-clause-stopped
returns-in_default-clause-stopped g c =
    let opens = g.A.Archive.opens c.args.archive.now in
    subst (λ (p : List ℕ). StopsAt opens (ranking_paths c.args.ranking.now) p) (sym c.deref-in_default.ensures)
    (stops-first opens (string_bytes c.args.ranking.now.stations) _
    (subst (λ (p : List ℕ). IsTried opens p) c.deref.ensures c.read_station_list.ensures.tried))

-- or a daily file can't be
pub returns-in_err-question-clause-stopped : goal.returns-in_err-question-clause-stopped
returns-in_err-question-clause-stopped g c =
    let opens = g.A.Archive.opens c.args.archive.now in
    let p = err_from_is_err_and c.from_residual.result c.from_residual.ensures.1 in
    rw (p.1, p.2) (stops-later opens (string_bytes c.args.ranking.now.stations) _ _
    (subst (λ (l : List ℕ). opens l true) c.deref.ensures c.in-Ok.ensures.opened)
    (subst (λ (fs : List (String Global)). StopsAt opens (map string_bytes fs) c.in_err-question.field-0.0.now)
    c.deref-3.ensures.value
    c.in_err-question.ensures.stopped))

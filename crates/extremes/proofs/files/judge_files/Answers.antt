use Rattle.std.proofs.Common.{ℕ, true, List, Global, String, map, sym, subst}
use Rattle.std.specs.Prelude.{string_bytes}
use Rattle.rank_input.specs.Feeding.{AreAllOf, IsTried, StopsAt}
use Rattle.rank_input.specs.Shares.{AsksWhole}
use Rattle.rank_input.proofs.Openings.{stops-first, stops-later, stops-before, stops-behind}
use Rattle.std.proofs.lemmas.Result.{err_from_is_err_and}
use Rattle.extremes.specs.Merges.{part_paths}
use Rattle.extremes.specs.Runs.{judging_paths}
use Rattle.extremes.proofs.FedRuns.{judges-files, judges-memory}
use Rattle.extremes.proofs.files.judge_files.Goals as goal

-- there is no room for a piece
pub returns-in_default-piece_room-clause-judges : goal.returns-in_default-piece_room-clause-judges
returns-in_default-piece_room-clause-judges g c =
    judges-memory (g.A.Archive.bytes_of c.args.archive.now) (g.A.Archive.opens c.args.archive.now) c.args.judging.now c.deref.result.now
    c.in-Ok.ensures.list.text _ _ c.deref.ensures c.in-Ok.ensures.list.all c.in_ok-papers.ensures.read

-- what was asked and taken is checked
pub returns-clause-judges : goal.returns-clause-judges
returns-clause-judges g c =
    let bytes_of = g.A.Archive.bytes_of c.args.archive.now in
    let opens = g.A.Archive.opens c.args.archive.now in
    judges-files bytes_of opens c.args.judging.now c.in_ok-question.question c.deref-2.result.now c.deref.result.now
    c.in-Ok.ensures.list.text c.deref-4.result.now c.deref-5.result.now c.judge_as.result c.deref-2.ensures c.deref.ensures
    c.in-Ok.ensures.list.all (
      subst (AreAllOf (bytes_of (string_bytes c.args.judging.now.papers.report))) (sym c.deref-4.ensures.value)
          c.in_ok-papers.ensures.read.0,
      subst (AreAllOf (bytes_of (string_bytes c.args.judging.now.papers.certificate))) (sym c.deref-5.ensures.value)
          c.in_ok-papers.ensures.read.1,
    )
    (subst (λ (fs : List (String Global)). AsksWhole bytes_of opens c.deref-2.result.now c.in-Ok.ensures.list.text fs
    c.in_ok-question.question) c.deref-3.ensures.value
    (c.in_ok-question.ensures.asked c.in-Ok.ensures.list.text c.in-Ok.ensures.list.is))
    c.judge_as.ensures.ok c.judge_as.ensures.warnings c.judge_as.ensures.err c.in-Ok.ensures.opened
    c.in_ok-papers.ensures.opened

-- the station list can't be read
pub returns-in_default-clause-stopped : goal.returns-in_default-clause-stopped
returns-in_default-clause-stopped g c =
    let opens = g.A.Archive.opens c.args.archive.now in
    subst (λ (p : List ℕ). StopsAt opens (judging_paths c.args.judging.now) p) (sym c.deref-in_default.ensures)
    (stops-first opens (string_bytes c.args.judging.now.stations) _
    (subst (λ (p : List ℕ). IsTried opens p) c.deref.ensures c.read_station_list.ensures.tried))

-- or a report or a certificate can't be
pub returns-in_err-papers-clause-stopped : goal.returns-in_err-papers-clause-stopped
returns-in_err-papers-clause-stopped g c =
    let opens = g.A.Archive.opens c.args.archive.now in
    let j = c.args.judging.now in
    let p = err_from_is_err_and c.from_residual.result c.from_residual.ensures.1 in
    rw (p.1, p.2) (stops-later opens (string_bytes j.stations) _ _
    (subst (λ (l : List ℕ). opens l true) c.deref.ensures c.in-Ok.ensures.opened)
    (stops-before opens _ (part_paths j.papers) (map string_bytes j.files.items) c.in_err-papers.ensures.stopped))

-- or a daily file can't be
pub returns-in_err-question-clause-stopped : goal.returns-in_err-question-clause-stopped
returns-in_err-question-clause-stopped g c =
    let opens = g.A.Archive.opens c.args.archive.now in
    let j = c.args.judging.now in
    let p = err_from_is_err_and c.from_residual-in_err-question.result
    c.from_residual-in_err-question.ensures.1 in
    rw (p.1, p.2) (stops-later opens (string_bytes j.stations) _ _
    (subst (λ (l : List ℕ). opens l true) c.deref.ensures c.in-Ok.ensures.opened)
    (stops-behind opens _ (part_paths j.papers) (map string_bytes j.files.items) c.in_ok-papers.ensures.opened
    (subst (λ (fs : List (String Global)). StopsAt opens (map string_bytes fs) c.in_err-question.field-0.0.now)
    c.deref-3.ensures.value
    c.in_err-question.ensures.stopped)))

use Rattle.std.proofs.Common.{ℕ, true, List, Global, String, map, sym, subst}
use Rattle.std.specs.Prelude.{string_bytes}
use Rattle.rank_input.specs.Feeding.{IsTried, StopsAt}
use Rattle.rank_input.specs.Shares.{TakesWhole}
use Rattle.rank_input.specs.Takes.{file_input}
use Rattle.rank_input.proofs.Openings.{stops-first, stops-later}
use Rattle.std.proofs.lemmas.Result.{err_from_is_err_and}
use Rattle.extremes.specs.Describes.{describing_paths}
use Rattle.ghcn_description.specs.Describing.{HasDescribedByRows}
use Rattle.extremes.proofs.FedRuns.{describes-files, describes-memory}
use Rattle.extremes.proofs.files.describe_files.Goals as goal

-- there is no room for a piece
pub returns-in_default-piece_room-clause-describes : goal.returns-in_default-piece_room-clause-describes
returns-in_default-piece_room-clause-describes g c =
    describes-memory (g.A.Archive.bytes_of c.args.archive.now) (g.A.Archive.opens c.args.archive.now) c.args.describing.now c.deref.result.now
    c.in-Ok.ensures.list.text _ c.deref.ensures c.in-Ok.ensures.list.all

-- the intake was given the files
pub describe_intake-requires : goal.describe_intake-requires
describe_intake-requires g c =
    let taken = c.in_ok-intake.ensures.taken c.in-Ok.ensures.list.text c.in-Ok.ensures.list.is in
    (file_input c.nothing.result c.in-Ok.ensures.list.text taken.files, taken.taken)

-- what was taken is described
pub returns-clause-describes : goal.returns-clause-describes
returns-clause-describes g c =
    let bytes_of = g.A.Archive.bytes_of c.args.archive.now in
    let opens = g.A.Archive.opens c.args.archive.now in
    describes-files bytes_of opens c.args.describing.now c.in_ok-intake.intake c.nothing.result c.deref.result.now
    c.in-Ok.ensures.list.text c.describe_intake.result c.deref.ensures c.in-Ok.ensures.list.all
    (subst (λ (fs : List (String Global)). TakesWhole HasDescribedByRows bytes_of opens c.nothing.result
    c.in-Ok.ensures.list.text fs c.in_ok-intake.intake) c.deref-2.ensures.value
    (c.in_ok-intake.ensures.taken c.in-Ok.ensures.list.text c.in-Ok.ensures.list.is))
    c.describe_intake.ensures.ok c.describe_intake.ensures.err c.in-Ok.ensures.opened

-- the station list can't be read
pub returns-in_default-clause-stopped : goal.returns-in_default-clause-stopped
returns-in_default-clause-stopped g c =
    let opens = g.A.Archive.opens c.args.archive.now in
    subst (λ (p : List ℕ). StopsAt opens (describing_paths c.args.describing.now) p) (sym c.deref-in_default.ensures)
    (stops-first opens (string_bytes c.args.describing.now.stations) _
    (subst (λ (p : List ℕ). IsTried opens p) c.deref.ensures c.read_station_list.ensures.tried))

-- or a daily file can't be
pub returns-in_err-intake-clause-stopped : goal.returns-in_err-intake-clause-stopped
returns-in_err-intake-clause-stopped g c =
    let opens = g.A.Archive.opens c.args.archive.now in
    let p = err_from_is_err_and c.from_residual.result c.from_residual.ensures.1 in
    rw (p.1, p.2) (stops-later opens (string_bytes c.args.describing.now.stations) _ _
    (subst (λ (l : List ℕ). opens l true) c.deref.ensures c.in-Ok.ensures.opened)
    (subst (λ (fs : List (String Global)). StopsAt opens (map string_bytes fs) c.in_err-intake.field-0.0.now)
    c.deref-2.ensures.value
    c.in_err-intake.ensures.stopped))

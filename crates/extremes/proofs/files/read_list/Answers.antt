use Rattle.std.proofs.Common.{ℕ, List, subst}
use Rattle.rank_input.specs.Feeding.{IsTried}
use Rattle.extremes.proofs.ReportsRead.{list-stops}
use Rattle.extremes.proofs.files.read_list.Goals as goal

-- the station list can't be read
pub returns-in-Err-clause-stopped : goal.returns-in-Err-clause-stopped
returns-in-Err-clause-stopped g c =
    let opens = g.A.Archive.opens c.args.archive.now in
    list-stops opens c.args.path.now c.in-Some.path c.deref-in-Err.result.now c.in-Some.is c.deref-in-Err.ensures
    (subst (λ (p : List ℕ). IsTried opens p) c.deref.ensures c.read_whole.ensures.tried)

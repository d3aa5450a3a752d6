use Rattle.std.proofs.Common.{ℕ, List, [], subst}
use Rattle.std.specs.Prelude.{string_bytes}
use Rattle.rank_input.specs.Feeding.{IsTried}
use Rattle.rank_input.proofs.Openings.{stops-first}
use Rattle.extremes.proofs.checked_papers.read_paper.Goals as goal

-- the file can't be read
pub returns-in-Err-clause-stopped : goal.returns-in-Err-clause-stopped
returns-in-Err-clause-stopped g c =
    let opens = g.A.Archive.opens c.args.archive.now in
    stops-first opens (string_bytes c.args.path) []
    (subst (λ (p : List ℕ). IsTried opens p) c.deref.ensures c.read_whole.ensures.tried)

use Rattle.std.proofs.Common.{ℕ, List, [], false, subst}
use Rattle.std.specs.Prelude.{string_bytes}
use Rattle.rank_input.proofs.Openings.{stops-first}
use Rattle.extremes.proofs.checked_papers.try_paper.Goals as goal

-- the file can't be opened
pub returns-in-Err-clause-stopped : goal.returns-in-Err-clause-stopped
returns-in-Err-clause-stopped g c =
    let opens = g.A.Archive.opens c.args.archive.now in
    stops-first opens (string_bytes c.args.path) []
    (false, subst (λ (p : List ℕ). opens p false) c.deref.ensures c.in-Err.ensures.failed)

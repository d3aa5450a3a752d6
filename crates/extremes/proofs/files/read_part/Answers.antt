use Rattle.std.proofs.Common.{ℕ, List, [], ◌∷◌, true, sym, subst}
use Rattle.std.specs.Prelude.{string_bytes}
use Rattle.rank_input.specs.Feeding.{IsTried, StopsAt}
use Rattle.rank_input.proofs.Openings.{stops-first, stops-later}
use Rattle.extremes.specs.Merges.{part_paths}
use Rattle.extremes.proofs.files.read_part.Goals as goal

-- the report can't be read
pub returns-in_default-clause-stopped : goal.returns-in_default-clause-stopped
returns-in_default-clause-stopped g c =
    let opens = g.A.Archive.opens c.args.archive.now in
    let part = c.args.part.now in
    subst (λ (p : List ℕ). StopsAt opens (part_paths part) p) (sym c.deref-in_default.ensures)
    (stops-first opens (string_bytes part.report) (string_bytes part.certificate ∷ [])
    (subst (λ (p : List ℕ). IsTried opens p) c.deref.ensures c.read_whole.ensures.tried))

-- or the certificate can't be
pub returns-in_default-read_whole-clause-stopped : goal.returns-in_default-read_whole-clause-stopped
returns-in_default-read_whole-clause-stopped g c =
    let opens = g.A.Archive.opens c.args.archive.now in
    let part = c.args.part.now in
    subst (λ (p : List ℕ). StopsAt opens (part_paths part) p) (sym c.deref-in_default-read_whole.ensures)
    (stops-later opens (string_bytes part.report) (string_bytes part.certificate) (string_bytes part.certificate ∷ [])
    (subst (λ (p : List ℕ). opens p true) c.deref.ensures c.in-Ok.ensures.opened)
    (stops-first opens (string_bytes part.certificate) []
    (subst (λ (p : List ℕ). IsTried opens p) c.deref-2.ensures c.read_whole-2.ensures.tried)))
